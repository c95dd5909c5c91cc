-- Reading what a site has.

use Rattle.std.specs.Prelude.{List, None, Ok, ℕ}
use Rattle.zq_links.specs.Frame.{Have}
use Rattle.zq_merge.specs.Version.{sites}
use Rattle.zq_merge.specs.declared.version.Version.{Version}
use Rattle.zq_merge.specs.declared.version.Version.TheVariants.{One, Three, Two}
use Rattle.zq_model.specs.Rule.{Greatest, Rule}
use Rattle.zq_fields.specs.Reading as part
use Rattle.zq_fields.specs.Reading.{Read, byte_in, dense_at, heap_at, sparse_at, ◌>>=◌}

-- the rule, which the versions before the third do not write
abbrev pub rule_at : Version → ℕ → List ℕ → Read Rule
rule_at One whole bytes = Ok (Greatest, bytes)
rule_at Two whole bytes = Ok (Greatest, bytes)
rule_at Three whole bytes = part.rule_at whole bytes

abbrev pub vector_at : Version → ℕ → List ℕ → Read (List ℕ)
vector_at One whole bytes = dense_at whole None bytes
vector_at Two whole bytes = sparse_at whole None bytes
vector_at Three whole bytes = sparse_at whole None bytes

-- the number of heaps, the heap, the sender, the rule and the vector
unfoldable pub have_at : Version → ℕ → List ℕ → Read Have
have_at v whole bytes = do
  heap ← heap_at whole bytes
  from ← byte_in whole 0 (sites v) heap.1
  rule ← rule_at v whole from.1
  vector ← vector_at v whole rule.1
  Ok (record { from = from.0; heap = heap.0.heap; heaps = heap.0.heaps; rule = rule.0; vector = vector.0 }, vector.1)
