-- The one spelling of each operation in each version.

use Rattle.std.specs.Int.{w64}
use Rattle.std.specs.Prelude.{List, [], ℕ, ◌++◌, ◌∷◌}
use Rattle.zq_delta.specs.declared.version.Version.{Version}
use Rattle.zq_delta.specs.declared.version.Version.TheVariants.{One, Two}
use Rattle.zq_delta.specs.Version.{version_byte}
use Rattle.zq_dots.specs.Placed.{Placed}
use Rattle.zq_fields.specs.Fields.{signed, text}
use Rattle.zq_model.specs.Operation.{Act, Bump, Drop, Put}
use Rattle.zq_fields.specs.Spelling.{dense, sparse}

abbrev pub vector : Version → List ℕ → List ℕ
vector One counters = dense counters
vector Two counters = sparse counters

abbrev pub act_bytes : Act → List ℕ
act_bytes (Put score) = 0 ∷ signed w64 score
act_bytes (Bump increment) = 1 ∷ signed w64 increment
act_bytes Drop = 2 ∷ []

-- The number of heaps, the heap, the site, the vector that the site had, the act, the key and the
-- member. The counter is the next after the vector's, and is not written.
unfoldable pub fields : Version → Placed → List ℕ
fields v o =
    o.heaps ∷ o.operation.heap ∷ o.operation.site ∷
    (vector v o.operation.seen
    ++ (act_bytes o.operation.act ++ (text o.operation.key ++ text o.operation.member)))

-- the version, and the fields
abbrev pub op_spelling : Version → Placed → List ℕ
op_spelling v o = version_byte v ∷ fields v o
