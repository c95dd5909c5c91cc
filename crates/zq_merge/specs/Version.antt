-- The versions of the frame. The first byte names the version.

use Rattle.std.specs.Prelude.{List, None, Option, Some, if◌then◌else◌, ℕ, ◌==◌, ◌≡◌}
use Rattle.zq_merge.specs.declared.version.Version.{Version}
use Rattle.zq_merge.specs.declared.version.Version.TheVariants.{One, Three, Two}
use Rattle.zq_model.specs.Rule.{Greatest, Rule}
use Rattle.zq_model.specs.Sets.{SITES}
use Rattle.zq_fields.specs.Vectors.{DENSE_SITES, IsDense}

abbrev pub version_byte : Version → ℕ
version_byte One = 1
version_byte Two = 2
version_byte Three = 3

abbrev pub version_of : ℕ → Option Version
version_of b = if b == 1 then Some One else
    (if b == 2 then Some Two else (if b == 3 then Some Three else None))

-- the sites that a version knows
abbrev pub sites : Version → ℕ
sites One = DENSE_SITES
sites Two = SITES
sites Three = SITES

-- The version has a spelling of the vector: the first one knows eight sites alone.
abbrev pub HasVector : Version → List ℕ → Type 0
HasVector One counters = IsDense counters
HasVector Two counters = Unit {0}
HasVector Three counters = Unit {0}

-- The version has a spelling of the rule: those before the third mean the greatest value.
abbrev pub HasRule : Version → Rule → Type 0
HasRule One rule = rule ≡ Greatest
HasRule Two rule = rule ≡ Greatest
HasRule Three rule = Unit {0}
