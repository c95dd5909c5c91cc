use Rattle.std.proofs.Common.{take, ◌≡◌}
use Rattle.zq_entry.proofs.entry.Entry.of_additions.Given as goal

abbrev pub invariant-loop-addition : goal.invariant-loop-addition
invariant-loop-addition l = l.copies ≡ take l.addition-index l.additions
