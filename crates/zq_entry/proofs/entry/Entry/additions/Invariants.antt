use Rattle.std.proofs.Common.{take, ◌≡◌}
use Rattle.zq_entry.proofs.entry.Entry.additions.Given as goal

abbrev pub invariant-loop-place : goal.invariant-loop-place
invariant-loop-place l = l.additions.items ≡ take l.place l.self-inside.additions
