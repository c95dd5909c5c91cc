-- When a worker has nothing more to do.
use Rattle.std.specs.Prelude.{Bool, false, not, true}

-- where its port is cut, and else where all connections have come and none is left
abbrev pub is_done : Bool → Bool → Bool → Bool
is_done true has_all is_left = true
is_done false true is_left = not is_left
is_done false false is_left = false
