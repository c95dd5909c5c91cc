use Rattle.std.proofs.Common.{reverse, vec_capacity, vec_len, ◌+◌, ◌++◌, ◌≡◌, ◌≤◌}
use Rattle.zq_ranked.proofs.halves.move_last.Given as goal

abbrev pub invariant-loop : goal.invariant-loop
invariant-loop g l = (l.initial.from.items ≡ l.from.items ++ reverse l.to.items) × (vec_len l.to ≡ l.counter) × (vec_len l.from + l.counter ≡ vec_len l.initial.from) × (l.count ≤ vec_capacity l.to)
