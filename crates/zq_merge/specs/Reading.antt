-- Reading from the front of the bytes, with the first fault that is met. What is read comes with
-- the bytes after it.

use Rattle.std.specs.Cmp.Lexicographic.{slice_cmp}
use Rattle.std.specs.Int.{w64, w128}
use Rattle.std.specs.Option.{ok_or}
use Rattle.std.specs.Ordering.{is_lt, nat_cmp}
use Rattle.std.specs.Prelude.{Bool, Err, List, None, Ok, Option, Result, Some, [], fold, if◌then◌else◌, nat_le, nat_lt, suc, true, unsigned_abs, zero, ℕ, ℤ, ◌&&◌, ◌+◌, ◌++◌, ◌∷◌}
use Rattle.zq_fields.specs.Fields.{number_field, signed_field}
use Rattle.zq_merge.specs.declared.fault.StateFault.{StateFault}
use Rattle.zq_merge.specs.declared.fault.StateFault.TheVariants as state
use Rattle.zq_fields.specs.Reading.{byte_in, text_at}
use Rattle.zq_fields.specs.declared.fault.PartFault.{PartFault}
use Rattle.zq_fields.specs.declared.fault.PartFault.TheVariants.{Field, Length, Score, Short}

-- what is read at the front of the bytes, or the fault
abbrev pub Read : Type 0 → Type 0
Read X = Result (X × List ℕ) StateFault

infixl 10 ◌>>=◌
abbrev pub ◌>>=◌ : {X Y : Type 0} → Result X StateFault → (X → Result Y StateFault) →
    Result Y StateFault
(Ok x) >>= f = f x
(Err fault) >>= f = Err fault

-- the fault of a part is the state's
abbrev pub fault_of : PartFault → StateFault
fault_of Short = state.Short
fault_of (Field place) = state.Field place
fault_of Length = state.Length
fault_of Score = state.Score

abbrev pub of_part : {X : Type 0} → Result X PartFault → Result X StateFault
of_part (Ok x) = Ok x
of_part (Err fault) = Err (fault_of fault)

-- k items, one after the other; each is read beside those that were read before it
unfoldable pub many_at : {X : Type 0} → (List X → List ℕ → Read X) → ℕ → List X → List ℕ →
    Read (List X)
many_at read zero items bytes = Ok (items, bytes)
many_at read (suc k) items bytes = do
  x ← read items bytes
  many_at read k (items ++ x.0 ∷ []) x.1

-- the least site that may follow these
abbrev pub next_site : {X : Type 0} → List (ℕ × X) → ℕ
next_site items = fold (λ low p. p.0 + 1) 0 items

-- a site of those below past, from low on
unfoldable pub site_at : ℕ → ℕ → ℕ → List ℕ → Read ℕ
site_at whole past low bytes = do
  site ← of_part (byte_in whole 0 past bytes)
  if nat_lt site.0 low then Err state.Order else Ok site

-- a counter from 1 up to last
unfoldable pub counter_at : ℕ → List ℕ → Read ℕ
counter_at last bytes = do
  n ← ok_or (number_field w64 bytes) state.Short
  if nat_le 1 n.0 && nat_le n.0 last then Ok n else Err state.Dot

-- a sum whose amount is at most this
unfoldable pub sum_in : ℕ → List ℕ → Read ℤ
sum_in most bytes = do
  z ← ok_or (signed_field w128 bytes) state.Short
  if nat_le (unsigned_abs z.0) most then Ok z else Err state.Total

-- whether a text is above the one before it, if there is one
abbrev pub is_after : Option (List ℕ) → List ℕ → Bool
is_after None text = true
is_after (Some before) text = is_lt (slice_cmp nat_cmp before text)

-- a key or a member above the one before it
unfoldable pub rising_text_at : Option (List ℕ) → List ℕ → Read (List ℕ)
rising_text_at before bytes = do
  text ← of_part (text_at bytes)
  if is_after before text.0 then Ok text else Err state.Order
