use Rattle.std.proofs.Common.{length, ◌≡◌}
use Rattle.zq_spread.proofs.building.empty_slots.Given as goal

abbrev pub invariant-loop-empty_slot : goal.invariant-loop-empty_slot
invariant-loop-empty_slot l = length l.empty_slots.items ≡ l._empty_slot
