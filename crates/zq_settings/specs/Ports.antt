-- Lists of ports.
use Rattle.std.specs.Prelude.{ℕ, ◌≤◌, ◌==◌, nat_eq, List, [], ◌∷◌, length, Option, Some, None, if◌then◌else◌}
use Rattle.std.specs.List.{list_any, IsDistinct}

-- the first port that stands again behind its place
abbrev pub first_twice : List ℕ → Option ℕ
first_twice [] = None
first_twice (port ∷ ports) =
    if list_any (λ other. other == port) ports then Some port else first_twice ports

-- a port for each of 1 to 64 sites, no two of them equal
abbrev pub ArePorts : List ℕ → Type 0
ArePorts ports = (1 ≤ length ports) × (length ports ≤ 64) × IsDistinct nat_eq ports
