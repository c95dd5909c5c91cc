use Rattle.std.proofs.Common.{[], ap, arith, rules, subst, sym, ◌++◌, ◌∙◌, ◌≡◌}
use Rattle.std.proofs.lemmas.List.{append-nil}
use Rattle.zq_model.specs.Reach.{IsWorked}
use Rattle.zq_journal.specs.Books.{book_when, steps_taken, steps_when}
use Rattle.zq_model.specs.Sets.{New, taken_of}
use Rattle.zq_journal.proofs.book.Book.take_from.Goals as goal

pub returns-then-ne-clause-worked : goal.returns-then-ne-clause-worked
returns-then-ne-clause-worked c =
    let none : steps_taken c.args.self.now c.args.stamp c.args.op.now.operation ≡ [] = first_of (search rules, grind arith) in
    λ a steps is. subst (λ ss. IsWorked c.args.self.now a c.args.stamp ss) (sym (ap (λ x. steps ++ x) none ∙ append-nil steps)) is

pub returns-clause-book : goal.returns-clause-book
returns-clause-book c =
    let new : taken_of c.args.self.now.state.vector c.args.op.now.operation ≡ New = first_of (search rules, grind arith) in
    c.in_ok-enter_from.ensures.recorded ∙ ap (λ t. book_when t c.args.self.now c.args.stamp c.args.op.now.operation) (sym new)

pub returns-clause-worked : goal.returns-clause-worked
returns-clause-worked c =
    let new : taken_of c.args.self.now.state.vector c.args.op.now.operation ≡ New = first_of (search rules, grind arith) in
    λ a steps is.
    subst (λ ss. IsWorked c.enter_from.new.self a c.args.stamp (steps ++ ss)) (ap (λ t. steps_when t c.args.stamp c.args.op.now.operation) (sym new))
    (c.in_ok-enter_from.ensures.worked a steps is)
