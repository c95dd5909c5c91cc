use Rattle.std.proofs.Common.{get_or, true, ℕ, ◌<◌, ◌≡◌, ◌↔◌}
use Rattle.zq_admin.proofs.token.is_same.Given as goal

abbrev pub invariant-loop-index : goal.invariant-loop-index
invariant-loop-index l = (l.same ≡ true) ↔ ((k : ℕ) → k < l.index → get_or l.one k 0 ≡ get_or l.other k 0)
