use Rattle.std.proofs.Common.{ap, length, subst, sym, ◌∙◌, ◌≤◌}
use Rattle.zq_model.specs.Books.{Book, IsBook}
use Rattle.zq_journal.proofs.Lasts.{length_tail}
use Rattle.zq_journal.proofs.book.Book.tail_len.Goals as goal

pub returns-clause-same : goal.returns-clause-same
returns-clause-same c =
    c.len.ensures
    ∙ c.self.inside.tail.ok.0
    ∙ sym (length_tail c.self.inside.shard c.self.inside.vector c.self.inside.tail.items)
    ∙ ap (λ (b : Book). length b.tail) c.self.view_is

pub returns-clause-bounded : goal.returns-clause-bounded
returns-clause-bounded c =
    let kept : IsBook c.args.self.now = subst IsBook c.self.view_is c.self.invariant.standing.book in
    subst (λ n. n ≤ c.args.self.now.count) (sym (returns-clause-same c)) kept.count
