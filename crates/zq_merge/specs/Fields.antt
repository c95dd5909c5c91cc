-- Reading the parts of a state from left to right, with the first fault that is met.

use Rattle.std.specs.Ordering.{int_eq}
use Rattle.std.specs.Prelude.{Err, List, None, Ok, Option, Some, [], fold, if◌then◌else◌, length, pos, slice_index, slice_index_or, ℕ, ℤ, ◌*◌, ◌+◌, ◌==◌}
use Rattle.zq_entry.specs.Sums.{dense_sums}
use Rattle.zq_merge.specs.Frame.{Frame}
use Rattle.zq_merge.specs.Keys.{KeyRows, MemberRow}
use Rattle.zq_merge.specs.Reading.{Read, counter_at, many_at, next_site, of_part, rising_text_at, site_at, sum_in, ◌>>=◌}
use Rattle.zq_merge.specs.Version.{sites}
use Rattle.zq_merge.specs.declared.fault.StateFault.TheVariants as state
use Rattle.zq_merge.specs.declared.version.Version.{Version}
use Rattle.zq_merge.specs.declared.version.Version.TheVariants.{One, Three, Two}
use Rattle.zq_model.specs.Heaps.{heap_of}
use Rattle.zq_model.specs.Operation.{MOST}
use Rattle.zq_model.specs.Rows.{OfSite}
use Rattle.zq_model.specs.Rule.{Greatest, Rule}
use Rattle.zq_model.specs.Sets.{SITES, by_site}
use Rattle.zq_fields.specs.Reading as part
use Rattle.zq_fields.specs.Reading.{byte_in, dense_at, heap_at, number_in, score_at, sparse_at}
use Rattle.zq_fields.specs.Vectors.{DENSE_SITES}
use Rattle.zq_fields.specs.declared.heap_no.HeapNo.{HeapNo}

-- the last number of eight bytes
abbrev pub LAST_NUMBER : ℕ
LAST_NUMBER = 18446744073709551615

-- ---- what stands before the keys

-- the rule, which the versions before the third do not write
abbrev pub rule_at : Version → ℕ → List ℕ → Read Rule
rule_at One whole bytes = Ok (Greatest, bytes)
rule_at Two whole bytes = Ok (Greatest, bytes)
rule_at Three whole bytes = of_part (part.rule_at whole bytes)

abbrev pub vector_at : Version → ℕ → List ℕ → Read (List ℕ)
vector_at One whole bytes = of_part (dense_at whole None bytes)
vector_at Two whole bytes = of_part (sparse_at whole None bytes)
vector_at Three whole bytes = of_part (sparse_at whole None bytes)

unfoldable pub frame_at : Version → ℕ → List ℕ → Read Frame
frame_at v whole bytes = do
  heap ← of_part (heap_at whole bytes)
  rule ← rule_at v whole heap.1
  vector ← vector_at v whole rule.1
  Ok (record { rule = rule.0; heap = heap.0; vector = vector.0 }, vector.1)

-- ---- additions

-- the sum of the next site: its amount is at most the greatest increment times the vector's counter
-- of the site
abbrev pub next_sum_at : List ℕ → List ℤ → List ℕ → Read ℤ
next_sum_at vector sums bytes = sum_in (MOST * slice_index vector (length sums)) bytes

-- a sum for each of the first sites
unfoldable pub each_sum_at : List ℕ → List ℕ → Read (List ℤ)
each_sum_at vector bytes = many_at (next_sum_at vector) DENSE_SITES [] bytes

-- a site from low on and its sum, which is not 0
unfoldable pub site_sum_at : ℕ → List ℕ → ℕ → List ℕ → Read (ℕ × ℤ)
site_sum_at whole vector low bytes = do
  site ← site_at whole SITES low bytes
  z ← sum_in (MOST * slice_index vector site.0) site.1
  if int_eq z.0 (pos 0) then Err state.Total else Ok ((site.0, z.0), z.1)

-- a sum of a later site than those before it
abbrev pub later_sum_at : ℕ → List ℕ → List (ℕ × ℤ) → List ℕ → Read (ℕ × ℤ)
later_sum_at whole vector sums bytes = site_sum_at whole vector (next_site sums) bytes

-- a number of sums, and as many
unfoldable pub listed_sums_at : ℕ → List ℕ → List ℕ → Read (List (ℕ × ℤ))
listed_sums_at whole vector bytes = do
  count ← of_part (byte_in whole 0 (SITES + 1) bytes)
  many_at (later_sum_at whole vector) count.0 [] count.1

-- a sum for each site, of which the first alone are written
abbrev pub all_sums_at : List ℕ → List ℕ → Read (List ℤ)
all_sums_at vector bytes = each_sum_at vector bytes >>= λ sums.
    Ok (by_site (λ s. slice_index_or sums.0 s (pos 0)), sums.1)

-- a sum for each site, of which those that are not 0 are written
abbrev pub some_sums_at : ℕ → List ℕ → List ℕ → Read (List ℤ)
some_sums_at whole vector bytes = listed_sums_at whole vector bytes >>= λ sums.
    Ok (dense_sums sums.0, sums.1)

-- a sum for each site
abbrev pub sums_at : Version → ℕ → List ℕ → List ℕ → Read (List ℤ)
sums_at One whole vector bytes = all_sums_at vector bytes
sums_at Two whole vector bytes = some_sums_at whole vector bytes
sums_at Three whole vector bytes = some_sums_at whole vector bytes

-- an addition of a site from low on, whose dot the vector has
unfoldable pub addition_at : Version → ℕ → List ℕ → ℕ → List ℕ → Read OfSite
addition_at v whole vector low bytes = do
  site ← site_at whole (sites v) low bytes
  n ← counter_at (slice_index vector site.0) site.1
  score ← of_part (score_at n.1)
  sums ← sums_at v whole vector score.1
  Ok ((site.0, record { n = n.0; score = score.0; sums = sums.0 }), sums.1)

-- an addition of a later site than those before it
abbrev pub later_addition_at : Version → ℕ → List ℕ → List OfSite → List ℕ → Read OfSite
later_addition_at v whole vector before bytes = addition_at v whole vector (next_site before) bytes

-- a number of additions, at least one, and as many
unfoldable pub additions_at : Version → ℕ → List ℕ → List ℕ → Read (List OfSite)
additions_at v whole vector bytes = do
  count ← of_part (byte_in whole 1 (sites v + 1) bytes)
  many_at (later_addition_at v whole vector) count.0 [] count.1

-- ---- members and keys

abbrev pub last_member : List MemberRow → Option (List ℕ)
last_member members = fold (λ last m. Some m.member) None members

abbrev pub last_key : List KeyRows → Option (List ℕ)
last_key keys = fold (λ last k. Some k.key) None keys

-- a member above those before it, which lies in this heap of so many
unfoldable pub placed_member_at : HeapNo → List ℕ → Option (List ℕ) → List ℕ → Read (List ℕ)
placed_member_at heap key before bytes = do
  member ← rising_text_at before bytes
  if heap_of key member.0 heap.heaps == heap.heap then Ok member else Err state.WrongHeap

-- a member above the one before it, and its additions
unfoldable pub member_at : Version → ℕ → Frame → List ℕ → Option (List ℕ) → List ℕ → Read MemberRow
member_at v whole frame key before bytes = do
  member ← placed_member_at frame.heap key before bytes
  additions ← additions_at v whole frame.vector member.1
  Ok (record { member = member.0; additions = additions.0 }, additions.1)

-- a member above those before it
abbrev pub later_member_at : Version → ℕ → Frame → List ℕ → List MemberRow → List ℕ → Read MemberRow
later_member_at v whole frame key members bytes =
    member_at v whole frame key (last_member members) bytes

-- a number of members, at least one, and as many
unfoldable pub members_at : Version → ℕ → Frame → List ℕ → List ℕ → Read (List MemberRow)
members_at v whole frame key bytes = do
  count ← of_part (number_in whole 1 LAST_NUMBER bytes)
  many_at (later_member_at v whole frame key) count.0 [] count.1

-- a key above the one before it, and its members
unfoldable pub key_at : Version → ℕ → Frame → Option (List ℕ) → List ℕ → Read KeyRows
key_at v whole frame before bytes = do
  key ← rising_text_at before bytes
  members ← members_at v whole frame key.0 key.1
  Ok (record { key = key.0; members = members.0 }, members.1)

-- a key above those before it
abbrev pub later_key_at : Version → ℕ → Frame → List KeyRows → List ℕ → Read KeyRows
later_key_at v whole frame keys bytes = key_at v whole frame (last_key keys) bytes

-- a number of keys, and as many
unfoldable pub keys_at : Version → ℕ → Frame → List ℕ → Read (List KeyRows)
keys_at v whole frame bytes = do
  count ← of_part (number_in whole 0 LAST_NUMBER bytes)
  many_at (later_key_at v whole frame) count.0 [] count.1
