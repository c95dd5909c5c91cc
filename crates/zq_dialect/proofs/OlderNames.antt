-- What a request of an older name says.

use Rattle.std.proofs.Common.{List, None, Some, [], ap, arith, false, length, refl, subst, true, ℕ, ◌<◌, ◌∙◌, ◌∷◌, ◌++◌, ◌≡◌, Ok}
use Rattle.std.proofs.lemmas.Bool.{cond-false, cond-true, le-leb}
use Rattle.std.proofs.lemmas.Slice.Eq.{bytes_eq-Decides}
use Rattle.std.specs.List.{find}
use Rattle.std.specs.Option.{option_map}
use Rattle.std.specs.Prelude.{Option, codes}
use Rattle.std.specs.Str.{bytes_eq, str_to_ascii_lowercase}
use Rattle.std.specs.declared.alloc.Global.{Global}
use Rattle.std.specs.declared.vec.Vec.{Vec}
use Rattle.zq_dialect.specs.Laws.{AreOlder, FewWordsStay, IsOlder, KeysUnlinked, OptionsRefused, OthersStay, PlacesTurned, Scored, ScoresRanged, ScoresTurned, Turned, TurnedScored}
use Rattle.zq_dialect.specs.Names.{ends_of, name_of, names}
use Rattle.zq_dialect.specs.Said.{older, older_range, own_options, plain_ends, said_of, saying}
use Rattle.zq_dialect.specs.declared.ends.Ends.{Ends}
use Rattle.zq_dialect.specs.declared.name.Name.{Name}
use Rattle.zq_dialect.specs.declared.name.Name.TheVariants as name
use Rattle.zq_words.specs.Words.{Word, is, views}

-- the name that a word is tells by its small letters
abbrev named_by : Word → Option Name
named_by low = option_map (λ row. row.1) (find (λ row. bytes_eq low (str_to_ascii_lowercase row.0)) names)

by_letters : (word name : Word) → is word name ≡ true → name_of word ≡ named_by (str_to_ascii_lowercase name)
by_letters word name e = ap named_by ((bytes_eq-Decides (str_to_ascii_lowercase word) (str_to_ascii_lowercase name)).0 e)

turned : (word : Word) → is word (codes "ZREVRANGE") ≡ true → name_of word ≡ Some (name.Older (ends_of false true))
turned word e = by_letters word (codes "ZREVRANGE") e

scored : (word : Word) → is word (codes "ZRANGEBYSCORE") ≡ true → name_of word ≡ Some (name.Older (ends_of true false))
scored word e = by_letters word (codes "ZRANGEBYSCORE") e

turned_scored : (word : Word) → is word (codes "ZREVRANGEBYSCORE") ≡ true → name_of word ≡ Some (name.Older (ends_of true true))
turned_scored word e = by_letters word (codes "ZREVRANGEBYSCORE") e

unlinked : (word : Word) → is word (codes "UNLINK") ≡ true → name_of word ≡ Some name.Unlink
unlinked word e = by_letters word (codes "UNLINK") e

said_by : (known : Option Name) (word : Word) (words : List Word) → name_of word ≡ known → said_of (word ∷ words) ≡ saying known word words
said_by known word words e = ap (λ found. saying found word words) e

-- options that are taken
ranged : (ends : Ends) (key a b : Word) (options : List Word) → AreOlder options →
    older_range ends key a b options ≡ Ok (codes "ZRANGE" ∷ key ∷ a ∷ b ∷ own_options ends ++ options)
ranged ends key a b options taken = cond-false _ _ _ taken.apart ∙ cond-true _ _ _ (le-leb _ _ taken.few)

pub places_turned : PlacesTurned
places_turned word key a b options e taken =
    said_by (Some (name.Older (ends_of false true))) word (key ∷ a ∷ b ∷ options) (turned word e) ∙ ranged (ends_of false true) key a b options taken

pub scores_ranged : ScoresRanged
scores_ranged word key a b options e taken =
    said_by (Some (name.Older (ends_of true false))) word (key ∷ a ∷ b ∷ options) (scored word e) ∙ ranged (ends_of true false) key _ _ options taken

pub scores_turned : ScoresTurned
scores_turned word key a b options e taken =
    said_by (Some (name.Older (ends_of true true))) word (key ∷ a ∷ b ∷ options) (turned_scored word e) ∙ ranged (ends_of true true) key _ _ options taken

pub keys_unlinked : KeysUnlinked
keys_unlinked word keys e = said_by (Some name.Unlink) word keys (unlinked word e)

-- an older name, by its ends
older_by : (word : Word) → IsOlder word → (ends : Ends) × (name_of word ≡ Some (name.Older ends))
older_by word (Turned e) = (ends_of false true, turned word e)
older_by word (Scored e) = (ends_of true false, scored word e)
older_by word (TurnedScored e) = (ends_of true true, turned_scored word e)

pub options_refused : OptionsRefused
options_refused word key a b options known again =
    let by = older_by word known in
    said_by (Some (name.Older by.0)) word (key ∷ a ∷ b ∷ options) by.1 ∙ cond-true _ _ _ again

few : (ends : Ends) (words : List Word) → length words < 3 → older ends (plain_ends ends words) ≡ Ok (codes "ZRANGE" ∷ words)
few ends [] h = refl
few ends (key ∷ []) h = refl
few ends (key ∷ a ∷ []) h = refl
few ends (key ∷ a ∷ b ∷ options) h = absurd (omega arith)

-- too few words in memory
pub few_views : (ends : Ends) (words : List (Vec ℕ Global)) → length words < 3 → older ends (plain_ends ends (views words)) ≡ Ok (codes "ZRANGE" ∷ views words)
few_views ends [] h = refl
few_views ends (key ∷ []) h = refl
few_views ends (key ∷ a ∷ []) h = refl
few_views ends (key ∷ a ∷ b ∷ options) h = absurd (omega arith)

pub few_words_stay : FewWordsStay
few_words_stay word words known h =
    let by = older_by word known in
    said_by (Some (name.Older by.0)) word words by.1 ∙ few by.0 words h

pub others_stay : OthersStay
others_stay word words e = said_by None word words e

-- the new name is no older one
pub apart_range : (word : Word) (ends : Ends) → name_of word ≡ Some (name.Older ends) → word ≡ codes "ZRANGE" → ⊥
apart_range word ends e f = let is : name_of (codes "ZRANGE") ≡ Some (name.Older ends) = subst (λ w. name_of w ≡ Some (name.Older ends)) f e in cc

pub apart_del : (word : Word) → name_of word ≡ Some name.Unlink → word ≡ codes "DEL" → ⊥
apart_del word e f = let is : name_of (codes "DEL") ≡ Some name.Unlink = subst (λ w. name_of w ≡ Some name.Unlink) f e in cc
