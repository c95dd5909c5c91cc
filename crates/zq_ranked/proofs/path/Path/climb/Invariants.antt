use Rattle.std.proofs.Common.{[], take, ◌≡◌}
use Rattle.zq_ranked.specs.Paths.{onward}
use Rattle.zq_ranked.proofs.path.Path.climb.Given as goal

abbrev pub invariant-loop-level : goal.invariant-loop-level
invariant-loop-level l = (l.self ≡ l.fn.self) × (onward (take l.level l.self.levels) ≡ [])
