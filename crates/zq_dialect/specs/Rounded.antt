-- Numbers that are rounded to whole ones.
use Rattle.std.specs.Prelude.{◌+◌, ◌-◌, ◌^◌, min, nat_le, ◌&&◌, not, Bool, ℕ, ℤ, drop, neg_ℤ, pos, Option, None, Some, if◌then◌else◌}
use Rattle.std.specs.List.{list_all}
use Rattle.zq_dialect.specs.Numbers.{Number, amount_at, digits, point}
use Rattle.zq_dialect.specs.declared.rounded.Rounded.{Rounded}
use Rattle.zq_words.specs.Words.{is_zero}

-- the digits before the moved point; the number is whole where only zeros stand behind it
abbrev pub rounded : Number → Rounded
rounded n =
    record {
      is_negative = n.is_negative;
      amount = amount_at (digits n) (point n);
      is_whole = list_all is_zero (drop (point n) (digits n));
    }

-- the same, with an amount that takes 64 bits
abbrev pub capped : Rounded → Rounded
capped r = record r { amount = min r.amount (2 ^ 64 - 1) }

abbrev pub signed_by : Bool → ℕ → ℤ
signed_by is_negative n = if is_negative then neg_ℤ (pos n) else pos n

-- the number of this amount, if it is a score
abbrev pub score_of : Bool → ℕ → Option ℤ
score_of is_negative n =
    if nat_le n 9007199254740992 then Some (signed_by is_negative n) else None

-- the next whole number inside a range, of which this is the least or the greatest end, lies away
-- from 0
abbrev pub is_away : Bool → Rounded → Bool
is_away is_least r = not r.is_whole && (if r.is_negative then not is_least else is_least)

-- the amount of the next whole number inside the range
abbrev pub inward : Bool → Rounded → ℕ
inward is_least r = if is_away is_least r then r.amount + 1 else r.amount
