-- What is said in place of a request is a request.

use Rattle.std.proofs.Common.{All, Bool, List, None, Ok, Option, Some, [], ap, arith, codes, cond, drop, false, length, length-append, nat_le, not, option_map, pos, refl, subst, suc, sym, take, take-append-drop, true, zero, ℕ, ℤ, ◌++◌, ◌+◌, ◌∙◌, ◌∷◌, ◌≡◌, ◌≤◌, Err}
use Rattle.std.proofs.lemmas.Bool.{leb-true}
use Rattle.std.proofs.lemmas.Fmt.{length_signed_le}
use Rattle.std.proofs.lemmas.List.Elements.{All-append, All-cons, All-drop, All-head, All-nil, All-tail, All-take}
use Rattle.std.proofs.lemmas.Option.{none-some}
use Rattle.std.specs.Fmt.{signed_decimal}
use Rattle.std.specs.Option.{option_and_then}
use Rattle.std.specs.Prelude.{unwrap_or}
use Rattle.zq_dialect.proofs.Kept.{limit_by}
use Rattle.zq_dialect.proofs.Values.{given, if_so, unless}
use Rattle.zq_dialect.specs.Names.{ends_of, name_of}
use Rattle.zq_dialect.specs.Numbers.{Number, number_in}
use Rattle.zq_dialect.specs.Rounded.{inward, rounded, score_of, signed_by}
use Rattle.zq_dialect.specs.Said.{Saying, asked_ends, asks_again, before_scores, older, own_options, plain, plain_end, plain_ends, plain_zadd, plain_zincrby, said, said_of, saying}
use Rattle.zq_dialect.specs.Spelled.{bound_text, is_plain, limit_in, new_bound, new_score, plain_pairs, plain_score, whole_score, without_paren}
use Rattle.zq_dialect.specs.declared.bounds.NewBound.{NewBound}
use Rattle.zq_dialect.specs.declared.ends.Ends.{Ends}
use Rattle.zq_dialect.specs.declared.name.Name.{Name}
use Rattle.zq_dialect.specs.declared.name.Name.TheVariants as name
use Rattle.zq_resp.specs.Request.{IsRequest, IsWord}
use Rattle.zq_words.specs.Words.{Word, begins}
use Rattle.zq_words.specs.declared.refused.Refused.{Refused}
use Rattle.zq_words.specs.declared.refused.Refused.TheVariants as refused

signed_short : (is_negative : Bool) (n : ℕ) → n ≤ 9007199254740992 → length (signed_decimal (signed_by is_negative n)) ≤ 17
signed_short false n h = length_signed_le 16 (pos n) (omega arith) (omega arith)
signed_short true zero h = length_signed_le 16 (pos zero) (omega arith) (omega arith)
signed_short true (suc n) h = length_signed_le 16 (signed_by true (suc n)) (omega arith) (omega arith)

score_short : (is_negative : Bool) (n : ℕ) (z : ℤ) → score_of is_negative n ≡ Some z → length (signed_decimal z) ≤ 17
score_short is_negative n z e =
    let is = given _ _ z e in
    subst (λ (y : ℤ). length (signed_decimal y) ≤ 17) is.1 (signed_short is_negative n (leb-true n 9007199254740992 is.0))

-- words that are written in place of others are short
score_by : (text : Word) (found : Option ℤ) → IsWord text → ((z : ℤ) → found ≡ Some z → length (signed_decimal z) ≤ 17) → IsWord (unwrap_or (option_map signed_decimal found) text)
score_by text None short few = short
score_by text (Some z) short few = let most : length (signed_decimal z) ≤ 17 = few z refl in omega arith

found_short : (found : Option Number) (z : ℤ) → option_and_then (λ n. whole_score (rounded n)) found ≡ Some z → length (signed_decimal z) ≤ 17
found_short None z e = absurd (none-some _ e)
found_short (Some n) z e = score_short n.is_negative (rounded n).amount z (if_so _ _ z e).1

score_word : (text : Word) → IsWord text → IsWord (plain_score text)
score_word text short = score_by text (new_score text) short (λ z e. found_short (number_in text) z (unless (is_plain text) _ z e))

text_short : (bound : NewBound) → length (signed_decimal bound.limit) ≤ 17 → length (bound_text bound) ≤ 18
text_short bound h = by bound.is_out
  where
    by : (b : Bool) → length (cond b (40 ∷ signed_decimal bound.limit) (signed_decimal bound.limit)) ≤ 18
    by true = omega arith
    by false = omega arith

bound_short : (is_out is_least : Bool) (found : Option Number) (bound : NewBound) → option_and_then (λ n. limit_in is_out is_least (rounded n)) found ≡ Some bound →
    length (bound_text bound) ≤ 18
bound_short is_out is_least None bound e = absurd (none-some _ e)
bound_short is_out is_least (Some n) bound e =
    text_short bound (score_short n.is_negative (inward is_least (rounded n)) bound.limit (limit_by _ (score_of n.is_negative (inward is_least (rounded n))) bound e))

bound_by : (text : Word) (found : Option NewBound) → IsWord text → ((b : NewBound) → found ≡ Some b → length (bound_text b) ≤ 18) → IsWord (unwrap_or (option_map bound_text found) text)
bound_by text None short few = short
bound_by text (Some bound) short few = let most : length (bound_text bound) ≤ 18 = few bound refl in omega arith

end_word : (by_score is_least : Bool) (text : Word) → IsWord text → IsWord (plain_end by_score is_least text)
end_word false is_least text short = short
end_word true is_least text short =
    bound_by text (new_bound is_least text) short
    (λ bound e. bound_short (begins text (codes "(")) is_least (number_in (without_paren text)) bound (unless (is_plain (without_paren text)) _ bound e))

-- as many words, each of them short
pub record AreAs (n : ℕ) (words : List Word) : Type 0 where
  pub count : length words ≡ n
  pub each : All IsWord words

pairs_as : (words : List Word) → All IsWord words → AreAs (length words) (plain_pairs words)
pairs_as [] each = record { count = refl; each = each }
pairs_as (score ∷ []) each = record { count = refl; each = each }
pairs_as (score ∷ member ∷ words) each =
    let behind : All IsWord (member ∷ words) = All-tail IsWord score (member ∷ words) each in
    let rest = pairs_as words (All-tail IsWord member words behind) in
    record {
      count = ap (λ n. suc (suc n)) rest.count;
      each = All-cons IsWord (plain_score score) (member ∷ plain_pairs words) (score_word score (All-head IsWord score (member ∷ words) each))
          (All-cons IsWord member (plain_pairs words) (All-head IsWord member words behind) rest.each);
    }

zadd_as : (words : List Word) → All IsWord words → AreAs (length words) (plain_zadd words)
zadd_as words each =
    let k : ℕ = before_scores words in
    let pairs = pairs_as (drop k words) (All-drop IsWord k words each) in
    record {
      count = length-append (take k words) (plain_pairs (drop k words)) ∙ ap (λ n. length (take k words) + n) pairs.count
          ∙ sym (length-append (take k words) (drop k words)) ∙ ap length (take-append-drop k words);
      each = All-append IsWord (take k words) _ (All-take IsWord k words each) pairs.each;
    }

zincrby_as : (words : List Word) → All IsWord words → AreAs (length words) (plain_zincrby words)
zincrby_as [] each = record { count = refl; each = each }
zincrby_as (key ∷ []) each = record { count = refl; each = each }
zincrby_as (key ∷ increment ∷ words) each =
    let behind : All IsWord (increment ∷ words) = All-tail IsWord key (increment ∷ words) each in
    record {
      count = refl;
      each = All-cons IsWord key (plain_score increment ∷ words) (All-head IsWord key (increment ∷ words) each)
          (All-cons IsWord (plain_score increment) words (score_word increment (All-head IsWord increment words behind)) (All-tail IsWord increment words behind));
    }

ends_as : (ends : Ends) (words : List Word) → All IsWord words → AreAs (length words) (plain_ends ends words)
ends_as ends [] each = record { count = refl; each = each }
ends_as ends (key ∷ []) each = record { count = refl; each = each }
ends_as ends (key ∷ a ∷ []) each = record { count = refl; each = each }
ends_as ends (key ∷ a ∷ b ∷ words) each =
    let behind : All IsWord (a ∷ b ∷ words) = All-tail IsWord key (a ∷ b ∷ words) each in
    let last : All IsWord (b ∷ words) = All-tail IsWord a (b ∷ words) behind in
    let first_end : Word = plain_end ends.by_score (not ends.is_turned) a in
    let second_end : Word = plain_end ends.by_score ends.is_turned b in
    record {
      count = refl;
      each = All-cons IsWord key (first_end ∷ second_end ∷ words) (All-head IsWord key (a ∷ b ∷ words) each)
          (All-cons IsWord first_end (second_end ∷ words) (end_word ends.by_score (not ends.is_turned) a (All-head IsWord a (b ∷ words) behind))
          (All-cons IsWord second_end words (end_word ends.by_score ends.is_turned b (All-head IsWord b words last)) (All-tail IsWord b words last)));
    }

plain_as : (known : Name) (words : List Word) → All IsWord words → AreAs (length words) (plain known words)
plain_as name.Zadd words each = zadd_as words each
plain_as name.Zincrby words each = zincrby_as words each
plain_as name.Zcount words each = ends_as (ends_of true false) words each
plain_as name.Zrange words each = ends_as (asked_ends (drop 3 words)) words each
plain_as (name.Older ends) words each = ends_as ends words each
plain_as name.Unlink words each = record { count = refl; each = each }
plain_as name.Zremrangebyscore words each = ends_as (ends_of true false) words each

named : (word : Word) (words : List Word) → IsWord word → All IsWord words → 1 + length words ≤ 65536 → IsRequest (word ∷ words)
named word words short each few = record { some = omega arith; limits = record { count = omega arith; each = All-cons IsWord word words short each } }

ok_is : (x y : List Word) → ◌≡◌ {A = Saying} (Ok x) (Ok y) → x ≡ y
ok_is x y e = cc

err_ok : {X : Type 0} (why : Refused) (y : List Word) → ◌≡◌ {A = Saying} (Err why) (Ok y) → X
err_ok why y e = cc

is_request : (x y : List Word) → IsRequest x → ◌≡◌ {A = Saying} (Ok x) (Ok y) → IsRequest y
is_request x y request e = subst IsRequest (ok_is x y e) request

one_word : (word : Word) → IsWord word → All IsWord (word ∷ [])
one_word word short = All-cons IsWord word [] short (All-nil IsWord)

options_by : (b t : Bool) → (length (cond b (codes "BYSCORE" ∷ []) [] ++ cond t (codes "REV" ∷ []) []) ≤ 2) × All IsWord (cond b (codes "BYSCORE" ∷ []) [] ++ cond t (codes "REV" ∷ []) [])
options_by true true = (omega arith, All-cons IsWord (codes "BYSCORE") (codes "REV" ∷ []) (omega arith) (one_word (codes "REV") (omega arith)))
options_by true false = (omega arith, one_word (codes "BYSCORE") (omega arith))
options_by false true = (omega arith, one_word (codes "REV") (omega arith))
options_by false false = (omega arith, All-nil IsWord)

options_short : (ends : Ends) → (length (own_options ends) ≤ 2) × All IsWord (own_options ends)
options_short ends = options_by ends.by_score ends.is_turned

range_by : (again few : Bool) (made new : List Word) → (few ≡ true → IsRequest made) → cond again (Err refused.Syntax) (cond few (Ok made) (Err refused.Words)) ≡ Ok new → IsRequest new
range_by true few made new request e = err_ok refused.Syntax new e
range_by false true made new request e = is_request made new (request refl) e
range_by false false made new request e = err_ok refused.Words new e

range_request : (ends : Ends) (key a b : Word) (options : List Word) → All IsWord (key ∷ a ∷ b ∷ options) → length options ≤ 65530 →
    IsRequest (codes "ZRANGE" ∷ key ∷ a ∷ b ∷ own_options ends ++ options)
range_request ends key a b options each most =
    let behind : All IsWord (a ∷ b ∷ options) = All-tail IsWord key (a ∷ b ∷ options) each in
    let last : All IsWord (b ∷ options) = All-tail IsWord a (b ∷ options) behind in
    let own = options_short ends in
    let others : List Word = own_options ends ++ options in
    let size : length others ≡ length (own_options ends) + length options = length-append (own_options ends) options in
    let words : All IsWord others = All-append IsWord (own_options ends) options own.1 (All-tail IsWord b options last) in
    let own_few : length (own_options ends) ≤ 2 = own.0 in
    named (codes "ZRANGE") (key ∷ a ∷ b ∷ others) (omega arith)
    (All-cons IsWord key (a ∷ b ∷ others) (All-head IsWord key (a ∷ b ∷ options) each)
    (All-cons IsWord a (b ∷ others) (All-head IsWord a (b ∷ options) behind) (All-cons IsWord b others (All-head IsWord b options last) words)))
    (omega (arith, size, own_few, most))

older_request : (ends : Ends) (words new : List Word) → All IsWord words → length words ≤ 65535 → older ends words ≡ Ok new → IsRequest new
older_request ends [] new each few e = is_request _ new (named (codes "ZRANGE") [] (omega arith) each (omega arith)) e
older_request ends (key ∷ []) new each few e = is_request _ new (named (codes "ZRANGE") (key ∷ []) (omega arith) each (omega arith)) e
older_request ends (key ∷ a ∷ []) new each few e = is_request _ new (named (codes "ZRANGE") (key ∷ a ∷ []) (omega arith) each (omega arith)) e
older_request ends (key ∷ a ∷ b ∷ options) new each few e =
    range_by (asks_again options) (nat_le (length options) 65530) (codes "ZRANGE" ∷ key ∷ a ∷ b ∷ own_options ends ++ options) new
    (λ fits. range_request ends key a b options each (leb-true (length options) 65530 fits)) e

said_request : (known : Name) (word : Word) (words new : List Word) → IsWord word → All IsWord words → length words ≤ 65535 → said known word words ≡ Ok new → IsRequest new
said_request name.Zadd word words new short each few e = is_request _ new (named word words short each (omega arith)) e
said_request name.Zincrby word words new short each few e = is_request _ new (named word words short each (omega arith)) e
said_request name.Zcount word words new short each few e = is_request _ new (named word words short each (omega arith)) e
said_request name.Zrange word words new short each few e = is_request _ new (named word words short each (omega arith)) e
said_request (name.Older ends) word words new short each few e = older_request ends words new each few e
said_request name.Unlink word words new short each few e = is_request _ new (named (codes "DEL") words (omega arith) each (omega arith)) e
said_request name.Zremrangebyscore word words new short each few e = is_request _ new (named word words short each (omega arith)) e

saying_request : (known : Option Name) (word : Word) (words new : List Word) → IsWord word → All IsWord words → length words ≤ 65535 → saying known word words ≡ Ok new → IsRequest new
saying_request None word words new short each few e = is_request _ new (named word words short each (omega arith)) e
saying_request (Some known) word words new short each few e =
    let made = plain_as known words each in
    let size : length (plain known words) ≡ length words = made.count in
    said_request known word (plain known words) new short made.each (omega arith) e

-- what is said in place of a request is a request
pub said_is_request : (words new : List Word) → IsRequest words → said_of words ≡ Ok new → IsRequest new
said_is_request [] new request e = is_request [] new request e
said_is_request (word ∷ words) new request e =
    let each : All IsWord (word ∷ words) = request.limits.each in
    let few : length (word ∷ words) ≤ 65536 = request.limits.count in
    saying_request (name_of word) word words new (All-head IsWord word words each) (All-tail IsWord word words each) (omega arith) e
