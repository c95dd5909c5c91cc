-- Where memory lacks, other words were to be made.

use Rattle.std.proofs.Common.{Err, List, Ok, Some, [], codes, ◌∷◌, ◌≡◌, ◌++◌, cond, Bool, true, false, nat_le, length}
use Rattle.zq_dialect.proofs.OlderNames.{apart_del, apart_range}
use Rattle.zq_dialect.specs.Names.{name_of}
use Rattle.zq_dialect.specs.Rewrites.{Refuses, Spells}
use Rattle.zq_dialect.specs.Said.{Saying, asks_again, older, own_options, plain_ends}
use Rattle.zq_dialect.specs.declared.ends.Ends.{Ends}
use Rattle.zq_dialect.specs.declared.name.Name.TheVariants as name
use Rattle.zq_words.specs.Words.{Word}
use Rattle.zq_words.specs.declared.refused.Refused.{Refused}
use Rattle.zq_words.specs.declared.refused.Refused.TheVariants as refused

pub ok_is : (x y : List Word) → ◌≡◌ {A = Saying} (Ok x) (Ok y) → x ≡ y
ok_is x y e = cc

err_ok : {X : Type 0} (why : Refused) (y : List Word) → ◌≡◌ {A = Saying} (Err why) (Ok y) → X
err_ok why y e = cc

behind_is : (word : Word) (x y : List Word) → word ∷ x ≡ word ∷ y → x ≡ y
behind_is word x y e = cc

-- other words behind the same name
pub others_made : (word : Word) (old new : List Word) → (new ≡ old → ⊥) → ◌≡◌ {A = Saying} (Ok (word ∷ new)) (Ok (word ∷ old)) → ⊥
others_made word old new other e = other (behind_is word new old (ok_is (word ∷ new) (word ∷ old) e))

first_is : (a b : Word) (x y : List Word) → ◌≡◌ {A = Saying} (Ok (a ∷ x)) (Ok (b ∷ y)) → b ≡ a
first_is a b x y e = cc

range_first : (again few : Bool) (made words : List Word) (word : Word) → (◌≡◌ {A = Saying} (Ok made) (Ok (word ∷ words)) → word ≡ codes "ZRANGE") →
    cond again (Err refused.Syntax) (cond few (Ok made) (Err refused.Words)) ≡ Ok (word ∷ words) → word ≡ codes "ZRANGE"
range_first true few made words word is e = err_ok refused.Syntax _ e
range_first false true made words word is e = is e
range_first false false made words word is e = err_ok refused.Words _ e

older_first : (ends : Ends) (words others : List Word) (word : Word) → older ends words ≡ Ok (word ∷ others) → word ≡ codes "ZRANGE"
older_first ends [] others word e = first_is (codes "ZRANGE") word [] others e
older_first ends (key ∷ []) others word e = first_is (codes "ZRANGE") word (key ∷ []) others e
older_first ends (key ∷ a ∷ []) others word e = first_is (codes "ZRANGE") word (key ∷ a ∷ []) others e
older_first ends (key ∷ a ∷ b ∷ options) others word e =
    range_first (asks_again options) (nat_le (length options) 65530) (codes "ZRANGE" ∷ key ∷ a ∷ b ∷ own_options ends ++ options) others word
    (first_is (codes "ZRANGE") word _ others) e

-- an older name's words are never the same
pub older_refused : (why : Refused) (word : Word) (words : List Word) (ends : Ends) → name_of word ≡ Some (name.Older ends) →
    Spells (Err why) (older ends (plain_ends ends words)) → Refuses why (word ∷ words) (older ends (plain_ends ends words))
older_refused refused.NoMemory word words ends known told = λ e. apart_range word ends known (older_first ends (plain_ends ends words) words word e)
older_refused refused.Unknown word words ends known told = told
older_refused refused.Words word words ends known told = told
older_refused refused.Syntax word words ends known told = told
older_refused refused.Flags word words ends known told = told
older_refused refused.OnePair word words ends known told = told
older_refused refused.Score word words ends known told = told
older_refused refused.Whole word words ends known told = told
older_refused refused.Negative word words ends known told = told
older_refused refused.Bound word words ends known told = told

pub unlinked_other : (word : Word) (words : List Word) → name_of word ≡ Some name.Unlink → ◌≡◌ {A = Saying} (Ok (codes "DEL" ∷ words)) (Ok (word ∷ words)) → ⊥
unlinked_other word words known e = apart_del word known (first_is (codes "DEL") word words words e)
