use Rattle.std.proofs.Common.{[], take, ◌≡◌}
use Rattle.zq_ranked.specs.Paths.{backward}
use Rattle.zq_ranked.proofs.path.Path.climb_back.Given as goal

abbrev pub invariant-loop-level : goal.invariant-loop-level
invariant-loop-level l = (l.self ≡ l.fn.self) × (backward (take l.level l.self.levels) ≡ [])
