use Rattle.std.proofs.Common.{get_or, ℕ, ◌<◌, ◌≡◌, ◌↔◌}
use Rattle.zq_wire.proofs.compare.is_same_tag.Given as goal

abbrev pub invariant-loop-index : goal.invariant-loop-index
invariant-loop-index l = (l.differing ≡ 0) ↔ ((k : ℕ) → k < l.index → get_or l.one k 0 ≡ get_or l.other k 0)
