use Rattle.std.proofs.Common.{map, take, ◌+◌, ◌≡◌}
use Rattle.std.specs.List.{sum}
use Rattle.zq_stage.specs.Portion.{lent_weight}
use Rattle.zq_stage.proofs.portion.fitting.Given as goal

abbrev pub invariant-loop-place : goal.invariant-loop-place
invariant-loop-place l = sum (map lent_weight (take l.place l.rows)) + l.left ≡ l.fn.bytes
