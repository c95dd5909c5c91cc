-- The mailboxes of sites.

use Rattle.std.specs.Prelude.{List, [], if◌then◌else◌, nat_lt, replicate, ℕ, ◌*◌, ◌-◌}

-- how many messages wait at most in each of them: there is one for each site, where there are
-- several of so many heaps
abbrev pub mosts_of : ℕ → ℕ → List ℕ
mosts_of sites heaps = if nat_lt 1 sites then replicate sites (4 * (sites - 1) * heaps) else []
