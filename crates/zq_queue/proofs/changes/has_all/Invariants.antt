use Rattle.std.proofs.Common.{take, true, ◌≡◌}
use Rattle.std.specs.List.{list_all}
use Rattle.zq_entry.specs.Placed.{placed_of}
use Rattle.zq_queue.specs.Effects.{is_seen}
use Rattle.zq_queue.proofs.changes.has_all.Given as goal

abbrev pub invariant-loop-place : goal.invariant-loop-place
invariant-loop-place l = list_all (is_seen l.seen) (take l.place (placed_of l.entry)) ≡ true
