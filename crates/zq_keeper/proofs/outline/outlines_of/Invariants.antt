use Rattle.std.proofs.Common.{map, take, ◌≡◌}
use Rattle.zq_keeper.specs.Outline.{outline_of}
use Rattle.zq_keeper.proofs.outline.outlines_of.Given as goal

abbrev pub invariant-loop-stage : goal.invariant-loop-stage
invariant-loop-stage l = l.outlines.items ≡ map outline_of (take l.stage-index l.stages)
