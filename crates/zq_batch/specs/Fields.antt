-- Reading an operation from left to right, with the first fault that is met.

use Rattle.std.specs.Option.{ok_or}
use Rattle.std.specs.Prelude.{Bool, Err, List, None, Ok, Option, Some, [], if◌then◌else◌, nat_lt, negsuc, pos, slice_index, slice_set, suc, true, zero, ℕ, ℤ, ◌%◌, ◌&&◌, ◌*◌, ◌+◌, ◌-◌, ◌/◌, ◌==◌}
use Rattle.zq_batch.specs.Before.{base_of, has_short_key, holds, last_op, most_of, repeats_key, repeats_site, top_of}
use Rattle.zq_batch.specs.Spelling.{FEW}
use Rattle.zq_batch.specs.Varint.{varint_in}
use Rattle.zq_batch.specs.declared.head.Head.{Head}
use Rattle.zq_dots.specs.Placed.{LONGEST, Placed}
use Rattle.zq_fields.specs.Fields.{byte_field, bytes_field}
use Rattle.zq_fields.specs.Reading.{Read, byte_in, place, ◌>>=◌}
use Rattle.zq_fields.specs.declared.fault.PartFault.TheVariants.{Field, Short}
use Rattle.zq_fields.specs.declared.heap_no.HeapNo.{HeapNo}
use Rattle.zq_model.specs.Operation.{Act, Bump, Drop, MOST, Put}
use Rattle.zq_model.specs.Sets.{LAST, SITES}

-- ---- counters

-- a site from low on, and by how much its counter rises
unfoldable pub change_at : ℕ → ℕ → ℕ → ℕ → List ℕ → List ℕ → Read (ℕ × ℕ)
change_at whole own top low v bytes = do
  site ← byte_in whole low SITES bytes
  n ← varint_in whole 1 (most_of own top site.0 - slice_index v site.0) site.1
  Ok ((site.0, n.0), n.1)

-- k changes, each of a later site than the one before
unfoldable pub changes_at : ℕ → ℕ → ℕ → ℕ → ℕ → List ℕ → List ℕ → Read (List ℕ)
changes_at whole own top zero low v bytes = Ok (v, bytes)
changes_at whole own top (suc k) low v bytes = do
  c ← change_at whole own top low v bytes
  changes_at whole own top k (c.0.0 + 1) (slice_set v c.0.0 (slice_index v c.0.0 + c.0.1)) c.1

-- ---- the head

abbrev pub head_of : ℕ → Head
head_of b = record { kind = b % 4; key = b / 4 % 2 == 1; site = b / 8 % 2 == 1; few = b / 16 }

-- there is an operation before
abbrev pub is_there : Placed → Bool
is_there o = true

-- it is of an act, and what it says of the operation before can be so
abbrev pub is_head : List Placed → Head → Bool
is_head before h =
    nat_lt h.kind 3
    && ((if h.key then holds has_short_key (last_op before) else true)
    && (if h.site then holds is_there (last_op before) else true))

unfoldable pub head_at : ℕ → List Placed → List ℕ → Read Head
head_at whole before bytes = do
  b ← ok_or (byte_field bytes) Short
  if is_head before (head_of b.0) then Ok (head_of b.0, b.1) else Err (Field (place whole bytes))

-- the site of the operation before
abbrev pub site_from : Option Placed → ℕ
site_from None = 0
site_from (Some o) = o.operation.site

-- a site that is not that of the operation before
unfoldable pub other_site_at : ℕ → List Placed → List ℕ → Read ℕ
other_site_at whole before bytes = do
  s ← byte_in whole 0 SITES bytes
  if repeats_site before s.0 then Err (Field (place whole bytes)) else Ok s

abbrev pub written_site_at : ℕ → List Placed → Bool → List ℕ → Read ℕ
written_site_at whole before again bytes =
    if again then Ok (site_from (last_op before), bytes) else other_site_at whole before bytes

-- The site, which has a further counter. The fault of one that has none is that of the operation's
-- head, at this place.
unfoldable pub site_at : ℕ → ℕ → List Placed → Bool → List ℕ → Read ℕ
site_at whole at before again bytes = do
  s ← written_site_at whole before again bytes
  if nat_lt (top_of s.0 before) LAST then Ok s else Err (Field at)

-- the number of changes
abbrev pub count_at : ℕ → ℕ → List ℕ → Read ℕ
count_at whole few bytes = if few == FEW then byte_in whole FEW (SITES + 1) bytes else Ok (few, bytes)

-- ---- the act and the names

abbrev pub unzigzag : ℕ → ℤ
unzigzag n = if n % 2 == 0 then pos (n / 2) else negsuc (n / 2)

unfoldable pub score_at : ℕ → List ℕ → Read ℤ
score_at whole bytes = varint_in whole 0 (2 * MOST) bytes >>= λ n. Ok (unzigzag n.0, n.1)

unfoldable pub act_at : ℕ → ℕ → List ℕ → Read Act
act_at whole kind bytes =
    if kind == 2 then Ok (Drop, bytes) else (do
      s ← score_at whole bytes
      Ok (if kind == 0 then Put s.0 else Bump s.0, s.1))

unfoldable pub name_at : ℕ → List ℕ → Read (List ℕ)
name_at whole bytes = do
  n ← varint_in whole 0 LONGEST bytes
  ok_or (bytes_field n.0 n.1) Short

abbrev pub key_from : Option Placed → List ℕ
key_from None = []
key_from (Some o) = o.operation.key

-- a key that need be written
unfoldable pub other_key_at : ℕ → List Placed → List ℕ → Read (List ℕ)
other_key_at whole before bytes = do
  k ← name_at whole bytes
  if repeats_key before k.0 then Err (Field (place whole bytes)) else Ok k

abbrev pub key_at : ℕ → List Placed → Bool → List ℕ → Read (List ℕ)
key_at whole before again bytes =
    if again then Ok (key_from (last_op before), bytes) else other_key_at whole before bytes

-- ---- operations

-- the operation of these parts, with the next counter of its site
abbrev pub placed : HeapNo → ℕ → List ℕ → Act → List ℕ → List ℕ → Placed
placed heap site seen act key member = record {
  heaps = heap.heaps;
  operation = record {
    heap = heap.heap;
    site = site;
    n = slice_index seen site + 1;
    seen = seen;
    key = key;
    member = member;
    act = act;
  };
}

-- the operation behind these
unfoldable pub op_at : ℕ → HeapNo → List Placed → List ℕ → Read Placed
op_at whole heap before bytes = do
  head ← head_at whole before bytes
  site ← site_at whole (place whole bytes) before head.0.site head.1
  count ← count_at whole head.0.few site.1
  seen ← changes_at whole site.0 (top_of site.0 before) count.0 0 (base_of site.0 before) count.1
  act ← act_at whole head.0.kind seen.1
  key ← key_at whole before head.0.key act.1
  member ← name_at whole key.1
  Ok (placed heap site.0 seen.0 act.0 key.0 member.0, member.1)
