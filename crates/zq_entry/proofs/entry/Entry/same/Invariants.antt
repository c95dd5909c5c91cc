use Rattle.std.proofs.Common.{take, ◌≡◌}
use Rattle.zq_entry.proofs.entry.Entry.same.Given as goal

abbrev pub invariant-loop-place : goal.invariant-loop-place
invariant-loop-place l = take l.place l.self-inside.additions ≡ take l.place l.other-inside.additions
