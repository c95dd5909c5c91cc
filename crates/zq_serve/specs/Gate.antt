-- How far a thread is that takes what calls make.

use Rattle.std.specs.Prelude.{Bool, ℕ, ◌%◌, ◌*◌, ◌+◌, ◌^◌}
use Rattle.zq_serve.specs.declared.gate.Pace.{Pace}

-- a piece more was taken
abbrev pub passed : Pace → Pace
passed pace = record { is_behind = pace.is_behind; pieces = (pace.pieces + 1) % 2 ^ 64 }

-- too much is left, or not
abbrev pub opened_or_shut : Bool → Pace → Pace
opened_or_shut is_behind pace = record { is_behind = is_behind; pieces = pace.pieces }

-- a call waits so long at most, in nanoseconds
abbrev pub patience : ℕ
patience = 5 * 1_000_000
