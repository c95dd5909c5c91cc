-- Reading a part from the front of the bytes, with the first fault that is met. What is read comes
-- with the bytes after it.

use Rattle.std.specs.Int.{w32, w64}
use Rattle.std.specs.Option.{ok_or}
use Rattle.std.specs.Prelude.{Err, List, Ok, Option, Result, if◌then◌else◌, length, nat_le, nat_lt, slice_set, suc, unsigned_abs, zero, ℕ, ℤ, ◌&&◌, ◌+◌, ◌-◌, ◌==◌, ◌≡◌}
use Rattle.zq_dots.specs.Placed.{LONGEST}
use Rattle.zq_fields.specs.Fields.{byte_field, bytes_field, number_field, signed_field}
use Rattle.zq_model.specs.Operation.{MOST}
use Rattle.zq_model.specs.Rule.{Greatest, Least, Rule}
use Rattle.zq_model.specs.Sets.{SITES}
use Rattle.zq_fields.specs.Vectors.{DENSE_SITES, limit_of, no_counters}
use Rattle.zq_fields.specs.declared.fault.PartFault.{PartFault}
use Rattle.zq_fields.specs.declared.fault.PartFault.TheVariants.{Field, Length, Score, Short}
use Rattle.zq_fields.specs.declared.heap_no.HeapNo.{HeapNo}

-- what is read at the front of the bytes, or the fault
abbrev pub Read : Type 0 → Type 0
Read X = Result (X × List ℕ) PartFault

-- what a reader returned, seen by view, is what reading gives
abbrev pub Gives : {X Y : Type 0} → (X → Y) → Result X PartFault → Result Y PartFault → Type 0
Gives view (Ok x) read = read ≡ Ok (view x)
Gives view (Err fault) read = read ≡ Err fault

infixl 10 ◌>>=◌
abbrev pub ◌>>=◌ : {X Y : Type 0} → Result X PartFault → (X → Result Y PartFault) →
    Result Y PartFault
(Ok x) >>= f = f x
(Err fault) >>= f = Err fault

-- Where the bytes begin, counted from the frame's first byte: whole is the number of bytes from
-- there on.
abbrev pub place : ℕ → List ℕ → ℕ
place whole bytes = whole - length bytes

-- a byte from low on and below past
unfoldable pub byte_in : ℕ → ℕ → ℕ → List ℕ → Read ℕ
byte_in whole low past bytes = do
  b ← ok_or (byte_field bytes) Short
  if nat_le low b.0 && nat_lt b.0 past then Ok b else Err (Field (place whole bytes))

-- a number of eight bytes from low up to last
unfoldable pub number_in : ℕ → ℕ → ℕ → List ℕ → Read ℕ
number_in whole low last bytes = do
  n ← ok_or (number_field w64 bytes) Short
  if nat_le low n.0 && nat_le n.0 last then Ok n else Err (Field (place whole bytes))

-- the number of heaps, 1 to 16, and the heap below it
unfoldable pub heap_at : ℕ → List ℕ → Read HeapNo
heap_at whole bytes = do
  heaps ← byte_in whole 1 17 bytes
  heap ← byte_in whole 0 heaps.0 heaps.1
  Ok (record { heap = heap.0; heaps = heaps.0 }, heap.1)

-- the rule of a byte: 0 or 1
abbrev pub rule_of_byte : ℕ → Rule
rule_of_byte b = if b == 0 then Greatest else Least

unfoldable pub rule_at : ℕ → List ℕ → Read Rule
rule_at whole bytes = byte_in whole 0 2 bytes >>= λ b. Ok (rule_of_byte b.0, b.1)

unfoldable pub score_at : List ℕ → Read ℤ
score_at bytes = do
  s ← ok_or (signed_field w64 bytes) Short
  if nat_le (unsigned_abs s.0) MOST then Ok s else Err Score

-- a key or a member
unfoldable pub text_at : List ℕ → Read (List ℕ)
text_at bytes = do
  n ← ok_or (number_field w32 bytes) Short
  if nat_lt LONGEST n.0 then Err Length else ok_or (bytes_field n.0 n.1) Short

-- the counters of k sites from the site s on, set in the vector
unfoldable pub counters_at : ℕ → Option ℕ → ℕ → ℕ → List ℕ → List ℕ → Read (List ℕ)
counters_at whole own zero s counters bytes = Ok (counters, bytes)
counters_at whole own (suc k) s counters bytes = do
  n ← number_in whole 0 (limit_of own s) bytes
  counters_at whole own k (s + 1) (slice_set counters s n.0) n.1

-- a counter for each of the first sites
unfoldable pub dense_at : ℕ → Option ℕ → List ℕ → Read (List ℕ)
dense_at whole own bytes = counters_at whole own DENSE_SITES 0 no_counters bytes

-- a site from low on, and its counter, which is not 0
unfoldable pub entry_at : ℕ → Option ℕ → ℕ → List ℕ → Read (ℕ × ℕ)
entry_at whole own low bytes = do
  site ← byte_in whole low SITES bytes
  n ← number_in whole 1 (limit_of own site.0) site.1
  Ok ((site.0, n.0), n.1)

-- k entries, each of a later site than the one before, set in the vector
unfoldable pub entries_at : ℕ → Option ℕ → ℕ → ℕ → List ℕ → List ℕ → Read (List ℕ)
entries_at whole own zero low counters bytes = Ok (counters, bytes)
entries_at whole own (suc k) low counters bytes = do
  e ← entry_at whole own low bytes
  entries_at whole own k (e.0.0 + 1) (slice_set counters e.0.0 e.0.1) e.1

-- a number of entries, and as many
unfoldable pub sparse_at : ℕ → Option ℕ → List ℕ → Read (List ℕ)
sparse_at whole own bytes = do
  count ← byte_in whole 0 (SITES + 1) bytes
  entries_at whole own count.0 0 no_counters count.1
