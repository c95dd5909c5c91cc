use Rattle.std.proofs.Common.{length, ◌≡◌}
use Rattle.zq_commands.proofs.SitePlaces.{AreEmpty}
use Rattle.zq_dots.specs.Rule.{rule_of}
use Rattle.zq_commands.proofs.site_books.SiteBooks.new.Given as goal

abbrev pub invariant-loop-heap : goal.invariant-loop-heap
invariant-loop-heap l = record {
  number : length l.books.items ≡ l.heap;
  empty : AreEmpty l.heaps (rule_of l.rule) l.books.items;
}
