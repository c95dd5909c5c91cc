use Rattle.std.proofs.Common.{ap, subst, sym, ◌∙◌}
use Rattle.zq_model.specs.Books.{IsBook, operations_of}
use Rattle.zq_model.specs.Image.{image_of}
use Rattle.zq_model.specs.Tail.{tail_set}
use Rattle.zq_journal.proofs.book.Book.shard.Goals as goal

pub returns-clause-set : goal.returns-clause-set
returns-clause-set c = λ S is.
    let kept : IsBook c.args.self.now = subst IsBook c.self.view_is c.self.invariant.standing.book in
    ap (λ b. b.state) c.self.view_is
    ∙ c.telling.ensures.state c.args.self.now.heaps c.args.self.now S kept is.world is.closed is.base
    ∙ sym (ap (image_of (tail_set S (operations_of c.args.self.now.tail))) (ap (λ b. b.heap) c.self.view_is))
