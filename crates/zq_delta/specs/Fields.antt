-- Reading the fields of an operation from left to right, with the first fault that is met.

use Rattle.std.specs.Prelude.{List, Ok, Option, Some, if◌then◌else◌, slice_index, ℕ, ◌+◌, ◌==◌}
use Rattle.zq_delta.specs.Version.{sites}
use Rattle.zq_delta.specs.declared.head.Head.{Head}
use Rattle.zq_delta.specs.declared.version.Version.{Version}
use Rattle.zq_delta.specs.declared.version.Version.TheVariants.{One, Two}
use Rattle.zq_dots.specs.Placed.{Placed}
use Rattle.zq_model.specs.Operation.{Act, Bump, Drop, Put}
use Rattle.zq_fields.specs.Reading.{Read, byte_in, dense_at, heap_at, score_at, sparse_at, text_at, ◌>>=◌}

-- the heap, and the site
unfoldable pub head_at : Version → ℕ → List ℕ → Read Head
head_at v whole bytes = do
  heap ← heap_at whole bytes
  site ← byte_in whole 0 (sites v) heap.1
  Ok (record { heap = heap.0; site = site.0 }, site.1)

-- what the site own had seen
abbrev pub vector_at : Version → ℕ → Option ℕ → List ℕ → Read (List ℕ)
vector_at One whole own bytes = dense_at whole own bytes
vector_at Two whole own bytes = sparse_at whole own bytes

unfoldable pub act_at : ℕ → List ℕ → Read Act
act_at whole bytes = do
  kind ← byte_in whole 0 3 bytes
  if kind.0 == 2 then Ok (Drop, kind.1) else (do
    score ← score_at kind.1
    Ok (if kind.0 == 0 then Put score.0 else Bump score.0, score.1))

-- the operation of these parts, with the next counter of its site
abbrev pub placed : Head → List ℕ → Act → List ℕ → List ℕ → Placed
placed head seen act key member = record {
  heaps = head.heap.heaps;
  operation = record {
    heap = head.heap.heap;
    site = head.site;
    n = slice_index seen head.site + 1;
    seen = seen;
    key = key;
    member = member;
    act = act;
  };
}

-- what follows the version
unfoldable pub fields_at : Version → ℕ → List ℕ → Read Placed
fields_at v whole bytes = do
  head ← head_at v whole bytes
  seen ← vector_at v whole (Some head.0.site) head.1
  act ← act_at whole seen.1
  key ← text_at act.1
  member ← text_at key.1
  Ok (placed head.0 seen.0 act.0 key.0 member.0, member.1)
