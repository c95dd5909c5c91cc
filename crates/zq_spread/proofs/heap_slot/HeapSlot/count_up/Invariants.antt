use Rattle.std.proofs.Common.{◌+◌, ◌≡◌}
use Rattle.zq_spread.proofs.heap_slot.HeapSlot.count_up.Given as goal
use Rattle.zq_tally.specs.Words as tally

abbrev pub invariant-loop-step : goal.invariant-loop-step
invariant-loop-step l =
    (l.kept.book ≡ l.initial.kept.book)
    × (tally.total_of l.kept.total ≡ tally.total_of l.initial.kept.total + l._step)
    × (tally.steps_of l.count ≡ tally.steps_of l.initial.count + l._step)
    × (tally.count_table l.count ≡ tally.count_table l.initial.count)
    × (tally.total_table l.kept.total ≡ tally.total_table l.initial.kept.total)
    × (tally.kept_of l.kept.total ≡ tally.kept_of l.initial.kept.total)
    × (tally.passes_of l.kept.total ≡ tally.passes_of l.initial.kept.total)
