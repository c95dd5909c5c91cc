-- The versions of the frame. The first byte names the version.

use Rattle.std.specs.Prelude.{List, None, Option, Some, if◌then◌else◌, ℕ, ◌<◌, ◌==◌}
use Rattle.zq_delta.specs.declared.version.Version.{Version}
use Rattle.zq_delta.specs.declared.version.Version.TheVariants.{One, Two}
use Rattle.zq_dots.specs.Placed.{Placed}
use Rattle.zq_model.specs.Sets.{SITES}
use Rattle.zq_fields.specs.Vectors.{DENSE_SITES, IsDense}

abbrev pub version_byte : Version → ℕ
version_byte One = 1
version_byte Two = 2

abbrev pub version_of : ℕ → Option Version
version_of b = if b == 1 then Some One else (if b == 2 then Some Two else None)

-- the sites that a version knows
abbrev pub sites : Version → ℕ
sites One = DENSE_SITES
sites Two = SITES

-- The version has a spelling of the vector: the first one knows eight sites alone.
abbrev pub HasVector : Version → List ℕ → Type 0
HasVector One counters = IsDense counters
HasVector Two counters = Unit {0}

-- The version has a spelling of the operation.
abbrev pub HasSpelling : Version → Placed → Type 0
HasSpelling v o = (o.operation.site < sites v) × HasVector v o.operation.seen
