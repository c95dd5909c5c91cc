use Rattle.std.proofs.Common.{[], ap, arith, length, rules, subst, sym, ◌++◌, ◌∙◌, ◌∷◌, ◌≡◌}
use Rattle.std.proofs.lemmas.List.{append-nil}
use Rattle.zq_model.specs.Books.{Book, Took, recorded}
use Rattle.zq_journal.specs.Limits.{limits_of}
use Rattle.zq_journal.proofs.BoundedTails.{bounded_state}
use Rattle.zq_journal.specs.BookView.{records_of}
use Rattle.zq_model.specs.Reach.{IsWorked}
use Rattle.zq_journal.proofs.MadeHere.{took_over}
use Rattle.zq_journal.specs.Books.{book_when, state_of, step_of, steps_taken, steps_when}
use Rattle.zq_dots.specs.Placed.{Placed}
use Rattle.zq_model.specs.Heaps.{heap_of}
use Rattle.zq_shard.specs.Shard.{IsOfHeap}
use Rattle.zq_model.specs.Sets.{New, SITES, taken_of}
use Rattle.zq_journal.proofs.book.Book.take.Goals as goal

pub returns-then-ne-clause-worked : goal.returns-then-ne-clause-worked
returns-then-ne-clause-worked c =
    let none : steps_taken c.args.self.now c.args.stamp c.args.op.now.operation ≡ [] = first_of (search rules, grind arith) in
    λ a steps is. subst (λ ss. IsWorked c.args.self.now a c.args.stamp ss) (sym (ap (λ x. steps ++ x) none ∙ append-nil steps)) is

pub returns-clause-book : goal.returns-clause-book
returns-clause-book c =
    let new : taken_of c.args.self.now.state.vector c.args.op.now.operation ≡ New = first_of (search rules, grind arith) in
    c.in_ok-enter.ensures.recorded
    ∙ ap (λ p. recorded c.args.self.now c.args.stamp (Took p.operation)) c.in_ok-copy.ensures.same
    ∙ ap (λ t. book_when t c.args.self.now c.args.stamp c.args.op.now.operation) (sym new)

pub returns-clause-worked : goal.returns-clause-worked
returns-clause-worked c =
    let new : taken_of c.args.self.now.state.vector c.args.op.now.operation ≡ New = first_of (search rules, grind arith) in
    λ a steps is.
    subst (λ ss. IsWorked c.enter.new.self a c.args.stamp (steps ++ ss))
    (ap (λ p. step_of c.args.stamp (Took p.operation) ∷ []) c.in_ok-copy.ensures.same ∙ ap (λ t. steps_when t c.args.stamp c.args.op.now.operation) (sym new))
    (c.in_ok-enter.ensures.worked a steps is)

pub enter-requires-clause-recordable : goal.enter-requires-clause-recordable
enter-requires-clause-recordable c =
    let here : IsOfHeap (state_of c.args.self.now) c.args.op.now = first_of (search rules, grind arith) in
    record {
      heap = ap (λ (p : Placed). p.operation.heap) c.in_ok-copy.ensures.same ∙ here.heap;
      heaps = ap (λ (p : Placed). p.heaps) c.in_ok-copy.ensures.same ∙ here.heaps;
      placed = ap (λ (p : Placed). heap_of p.operation.key p.operation.member c.args.self.now.heaps) c.in_ok-copy.ensures.same ∙ here.placed;
      sound = c.in_ok-copy.ensures.sound;
    }

pub enter-requires-clause-over : goal.enter-requires-clause-over
enter-requires-clause-over c =
    let here : IsOfHeap (state_of c.args.self.now) c.args.op.now = first_of (search rules, grind arith) in
    let new : taken_of c.args.self.now.state.vector c.args.op.now.operation ≡ New = first_of (search rules, grind arith) in
    let same = c.in_ok-copy.ensures.same in
    let bounded = bounded_state c.self.inside.shard c.self.inside.vector (records_of c.self.inside) (limits_of c.self.inside.limits) c.self.inside.handed c.self.inside.stamp c.self.inside.count c.self.invariant.standing in
    let wide : length c.args.self.now.state.vector ≡ SITES = ap (λ (q : Book). length q.state.vector) (sym c.self.view_is) ∙ bounded.counters.wide in
    took_over c.args.self.now.heaps c.args.self.now.heap c.args.self.now.state.vector c.in_ok-copy.copy.value (ap (λ (p : Placed). p.heaps) same ∙ here.heaps) (ap (λ (p : Placed). p.operation.heap) same ∙ here.heap)
    (ap (λ (p : Placed). heap_of p.operation.key p.operation.member c.args.self.now.heaps) same ∙ here.placed) wide c.in_ok-copy.ensures.sound
    (ap (λ (p : Placed). taken_of c.args.self.now.state.vector p.operation) same ∙ new)
