-- The one spelling of each part.

use Rattle.std.specs.Int.{to_be_bytes, w64}
use Rattle.std.specs.Prelude.{Bool, List, [], count_by, flat_map, if◌then◌else◌, nat_lt, take, ℕ, ◌+◌, ◌++◌, ◌∷◌}
use Rattle.zq_model.specs.Rule.{Greatest, Least, Rule}
use Rattle.zq_fields.specs.Vectors.{DENSE_SITES}

abbrev pub rule_byte : Rule → ℕ
rule_byte Greatest = 0
rule_byte Least = 1

-- the counters of the first sites, site 0 first
unfoldable pub dense : List ℕ → List ℕ
dense counters = flat_map (to_be_bytes w64) (take DENSE_SITES counters)

-- whether anything is known of a site with this counter
abbrev pub is_known : ℕ → Bool
is_known n = nat_lt 0 n

-- a site and its counter, and nothing where it is 0
abbrev pub entry : ℕ → ℕ → List ℕ
entry s n = if is_known n then s ∷ to_be_bytes w64 n else []

-- the entries of the sites from s on
abbrev pub entries : ℕ → List ℕ → List ℕ
entries s [] = []
entries s (n ∷ counters) = entry s n ++ entries (s + 1) counters

-- the number of sites of which anything is known, and their entries, the least site first
unfoldable pub sparse : List ℕ → List ℕ
sparse counters = count_by is_known counters ∷ entries 0 counters
