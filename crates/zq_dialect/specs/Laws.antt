-- Laws of the words that are read in place of others.
use Rattle.std.specs.Prelude.{◌≡◌, ◌+◌, ◌*◌, ◌^◌, ◌≤◌, ◌<◌, ◌↔◌, ◌*ℤ◌, ◌≤ℤ◌, ◌<ℤ◌, Bool, true, false, ℕ, ℤ, List, ◌∷◌, length, codes, pos, None, Some, Ok, Err, IsTrue, if◌then◌else◌}
use Rattle.zq_dialect.specs.Names.{name_of}
use Rattle.zq_dialect.specs.Numbers.{Number, digits, number_in}
use Rattle.zq_dialect.specs.Rounded.{signed_by}
use Rattle.zq_dialect.specs.Said.{asks_again, said_of}
use Rattle.zq_dialect.specs.Spelled.{new_bound, new_score, plain_bound, plain_score, without_paren}
use Rattle.zq_dialect.specs.declared.bounds.NewBound.{NewBound}
use Rattle.zq_words.specs.Words.{Word, begins, is, number_of, written_score}
use Rattle.zq_words.specs.declared.refused.Refused.TheVariants as refused

-- options that an older name takes
pub record AreOlder (options : List Word) : Type 0 where
  pub apart : asks_again options ≡ false
  pub few : length options ≤ 65530

-- The older names of ZRANGE, with its ends and the options that each stands for.
abbrev pub PlacesTurned : Type 0
PlacesTurned =
    (word key a b : Word) (options : List Word) → IsTrue (is word (codes "ZREVRANGE")) →
    AreOlder options
    → said_of (word ∷ key ∷ a ∷ b ∷ options)
    ≡ Ok (codes "ZRANGE" ∷ key ∷ a ∷ b ∷ codes "REV" ∷ options)

abbrev pub ScoresRanged : Type 0
ScoresRanged =
    (word key a b : Word) (options : List Word) → IsTrue (is word (codes "ZRANGEBYSCORE")) →
    AreOlder options
    → said_of (word ∷ key ∷ a ∷ b ∷ options)
    ≡ Ok (codes "ZRANGE" ∷ key ∷ plain_bound true a ∷ plain_bound false b ∷ codes "BYSCORE"
    ∷ options)

abbrev pub ScoresTurned : Type 0
ScoresTurned =
    (word key a b : Word) (options : List Word) → IsTrue (is word (codes "ZREVRANGEBYSCORE")) →
    AreOlder options
    → said_of (word ∷ key ∷ a ∷ b ∷ options)
    ≡ Ok (codes "ZRANGE" ∷ key ∷ plain_bound false a ∷ plain_bound true b ∷ codes "BYSCORE"
    ∷ codes "REV" ∷ options)

abbrev pub KeysUnlinked : Type 0
KeysUnlinked =
    (word : Word) (keys : List Word) → IsTrue (is word (codes "UNLINK")) →
    said_of (word ∷ keys) ≡ Ok (codes "DEL" ∷ keys)

-- a word is one of the older names of ZRANGE
pub data IsOlder (word : Word) : Type 0 where
  Turned : IsTrue (is word (codes "ZREVRANGE")) → IsOlder word
  Scored : IsTrue (is word (codes "ZRANGEBYSCORE")) → IsOlder word
  TurnedScored : IsTrue (is word (codes "ZREVRANGEBYSCORE")) → IsOlder word

-- What such a name says by itself is no option behind it.
abbrev pub OptionsRefused : Type 0
OptionsRefused =
    (word key a b : Word) (options : List Word) → IsOlder word → asks_again options ≡ true →
    said_of (word ∷ key ∷ a ∷ b ∷ options) ≡ Err refused.Syntax

-- Too few words stay, behind the other name, and their number is what is refused.
abbrev pub FewWordsStay : Type 0
FewWordsStay =
    (word : Word) (words : List Word) → IsOlder word → length words < 3 →
    said_of (word ∷ words) ≡ Ok (codes "ZRANGE" ∷ words)

-- A command that is not named here stays as it is.
abbrev pub OthersStay : Type 0
OthersStay = (word : Word) (words : List Word) → name_of word ≡ None →
    said_of (word ∷ words) ≡ Ok (word ∷ words)

-- The value of a number's text is its numerator over its denominator.
abbrev pub up : Number → ℕ
up n = if n.shift.is_down then 0 else n.shift.places

abbrev pub down : Number → ℕ
down n = length n.fraction + (if n.shift.is_down then n.shift.places else 0)

abbrev pub numerator : Number → ℤ
numerator n = signed_by n.is_negative (number_of (digits n) * 10 ^ up n)

abbrev pub denominator : Number → ℤ
denominator n = pos (10 ^ down n)

-- A score that is written in place of a text has the value that the text writes.
abbrev pub ValuesStay : Type 0
ValuesStay =
    (text : Word) (n : Number) (z : ℤ) → number_in text ≡ Some n → new_score text ≡ Some z →
    z *ℤ denominator n ≡ numerator n

-- It is read again as that score.
abbrev pub ScoresAreRead : Type 0
ScoresAreRead =
    (text : Word) (z : ℤ) → new_score text ≡ Some z → written_score (plain_score text) ≡ Some z

-- a whole number lies above a bound, which is left out or not
abbrev pub IsAbove : Bool → ℤ → ℤ → Type 0
IsAbove true bound z = bound <ℤ z
IsAbove false bound z = bound ≤ℤ z

-- it lies inside a range, of which the bound is the least or the greatest end
abbrev pub IsInside : Bool → Bool → ℤ → ℤ → Type 0
IsInside true is_out bound z = IsAbove is_out bound z
IsInside false is_out bound z = IsAbove is_out z bound

-- A bound that is written in place of a text takes the same whole scores.
abbrev pub BoundsTakeTheSame : Type 0
BoundsTakeTheSame =
    (is_least : Bool) (text : Word) (n : Number) (bound : NewBound) →
    number_in (without_paren text) ≡ Some n
    → new_bound is_least text ≡ Some bound → (z : ℤ) →
    IsInside is_least bound.is_out bound.limit z
    ↔ IsInside is_least (begins text (codes "(")) (numerator n) (z *ℤ denominator n)
