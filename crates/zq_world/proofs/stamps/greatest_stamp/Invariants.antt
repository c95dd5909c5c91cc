use Rattle.std.proofs.Common.{drop, length, ◌≡◌, ◌≤◌}
use Rattle.zq_semantics.specs.Run.{LAST_COUNT}
use Rattle.zq_semantics.specs.Books as site
use Rattle.zq_world.proofs.stamps.greatest_stamp.Given as goal

abbrev pub invariant-loop-place : goal.invariant-loop-place
invariant-loop-place l = record {
  within : l.place ≤ length l.books;
  bounded : l.greatest ≤ LAST_COUNT;
  greatest : l.greatest ≡ site.greatest_stamp (drop l.place l.books);
}

abbrev pub decreases-loop-place : goal.decreases-loop-place
decreases-loop-place l = l.place
