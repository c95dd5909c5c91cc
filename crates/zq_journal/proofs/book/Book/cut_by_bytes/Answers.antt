use Rattle.std.proofs.Common.{ap, arith, length, min, sym, ◌∙◌, ◌≡◌}
use Rattle.zq_model.specs.Books.{Book}
use Rattle.zq_model.specs.Reach.{cut_by_bytes}
use Rattle.zq_journal.proofs.Lasts.{length_tail}
use Rattle.zq_journal.proofs.Weights.{cut_to_bytes-written}
use Rattle.zq_journal.specs.BookView.{book_of}
use Rattle.zq_journal.proofs.book.Book.cut_by_bytes.Goals as goal

pub cut_to_bytes-requires-clause-oldest : goal.cut_to_bytes-requires-clause-oldest
cut_to_bytes-requires-clause-oldest c =
    let long : length c.self.inside.tail.items ≡ length c.args.self.now.tail =
    sym (length_tail c.self.inside.shard c.self.inside.vector c.self.inside.tail.items) ∙ ap (λ (b : Book). length b.tail) c.self.view_is in
    omega (arith, c.requires, long)

pub returns-in-Some : goal.returns-in-Some
returns-in-Some c =
    c.cut_to_bytes.ensures
    ∙ ap (min c.args.oldest) (sym (cut_to_bytes-written c.in-Some.most c.self.inside.shard.heap c.self.inside.shard.heaps c.self.inside.vector c.self.inside.tail.items)
    ∙ ap (λ most. cut_by_bytes most (book_of c.self.inside).tail) (sym c.in-Some.is)
    ∙ ap (λ (b : Book). cut_by_bytes b.limits.bytes b.tail) c.self.view_is)
