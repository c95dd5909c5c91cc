-- Reading the parts of entries from left to right, with the first fault that is met.

use Rattle.std.specs.Int.{w64}
use Rattle.std.specs.Option.{ok_or}
use Rattle.std.specs.Prelude.{List, None, Ok, ℕ, ◌+◌, ◌-◌, ◌^◌}
use Rattle.zq_entries.specs.Entry.{FOLDER, MOST_BATCHES, Start}
use Rattle.zq_entries.specs.declared.sealed.Sealed.{Sealed}
use Rattle.zq_fields.specs.Fields.{bytes_field, number_field}
use Rattle.zq_fields.specs.Reading.{Read, byte_in, heap_at, number_in, rule_at, sparse_at, ◌>>=◌}
use Rattle.zq_fields.specs.declared.fault.PartFault.TheVariants.{Short}
use Rattle.zq_model.specs.Sets.{SITES}

-- the bytes that name a folder
abbrev pub folder_at : List ℕ → Read (List ℕ)
folder_at bytes = ok_or (bytes_field FOLDER bytes) Short

-- the site, the number of heaps, the rule, the folder's name, and the start's number
unfoldable pub identity_at : ℕ → List ℕ → Read Start
identity_at whole bytes = do
  site ← byte_in whole 0 SITES bytes
  heaps ← byte_in whole 1 17 site.1
  rule ← rule_at whole heaps.1
  folder ← folder_at rule.1
  number ← number_in whole 1 (2 ^ 64 - 1) folder.1
  Ok (
    record {
      site = site.0;
      heaps = heaps.0;
      rule = rule.0;
      folder = folder.0;
      number = number.0;
    },
    number.1,
  )

-- eight bytes of length, and that many bytes
unfoldable pub block_at : List ℕ → Read (List ℕ)
block_at bytes = do
  n ← ok_or (number_field w64 bytes) Short
  ok_or (bytes_field n.0 n.1) Short

-- the number of batches
abbrev pub count_at : ℕ → List ℕ → Read ℕ
count_at whole bytes = byte_in whole 1 (MOST_BATCHES + 1) bytes

-- the number of heaps, the heap and the vector
unfoldable pub sealed_at : ℕ → List ℕ → Read Sealed
sealed_at whole bytes = do
  heap ← heap_at whole bytes
  vector ← sparse_at whole None heap.1
  Ok (record { heap = heap.0; vector = vector.0 }, vector.1)
