-- When a log is switched.

use Rattle.std.specs.Prelude.{Bool, nat_lt, ◌&&◌, ◌*◌}
use Rattle.zq_keeper.specs.declared.size.Size.{Size}

-- it is longer than 64 MiB, and than twice what the last switch left
abbrev pub is_long : Size → Bool
is_long s = nat_lt 67108864 s.log && nat_lt (2 * s.left) s.log
