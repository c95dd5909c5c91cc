use Rattle.std.proofs.Common.{map, take, ◌≡◌}
use Rattle.zq_entry.specs.Changes.{bumped_placed}
use Rattle.zq_entry.proofs.entry.Entry.bump.Given as goal

abbrev pub invariant-loop-place : goal.invariant-loop-place
invariant-loop-place l = l.bumped ≡ map (bumped_placed l.seen l.dot.site l.increment) (take l.place l.self-inside.additions)
