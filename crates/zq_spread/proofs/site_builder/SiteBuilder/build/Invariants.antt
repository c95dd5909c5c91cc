use Rattle.std.proofs.Common.{length, ◌++◌, ◌≡◌}
use Rattle.std.specs.Vec.Iter.{into_iter_items, into_iter_len}
use Rattle.zq_spread.proofs.site_builder.SiteBuilder.build.Given as goal
use Rattle.zq_spread.specs.SiteBuilders.{IsGround}

abbrev pub invariant-loop-book : goal.invariant-loop-book
invariant-loop-book l = record {
  items : l.yielded ++ into_iter_items l.book-iterator ≡ into_iter_items l.initial.book-iterator;
  left : into_iter_len l.book-iterator ≡ length (into_iter_items l.book-iterator);
  builder : IsGround (length (into_iter_items l.initial.book-iterator)) (length l.initial.self.passes.items) l.initial.self.rule l.yielded l.self;
}
