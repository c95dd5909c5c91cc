use Rattle.std.proofs.Common.{drop, ◌≡◌}
use Rattle.zq_spread.proofs.locked_heaps.LockedHeaps.are_untouched.Given as goal
use Rattle.zq_spread.specs.Several.{books_of, helds_of}
use Rattle.zq_spread.specs.Watching.{are_untouched}

abbrev pub invariant-loop-place : goal.invariant-loop-place
invariant-loop-place l =
    are_untouched (drop l.place l.watched.vectors) l.watched.keys (drop l.place (books_of (helds_of l.self)))
    ≡ are_untouched l.watched.vectors l.watched.keys (books_of (helds_of l.self))
