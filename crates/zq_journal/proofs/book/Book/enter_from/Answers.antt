use Rattle.std.proofs.Common.{[], ap, arith, length, rules, subst, sym, true, ◌+◌, ◌++◌, ◌∙◌, ◌∷◌, ◌≡◌, ◌≤◌}
use Rattle.zq_dots.specs.Placed.{IsRanged, Placed, renamed}
use Rattle.zq_model.specs.Books as book
use Rattle.zq_model.specs.Books.{Book, is_change_over, recorded}
use Rattle.zq_model.specs.Reach.{IsWorked}
use Rattle.zq_journal.specs.Limits.{limits_of}
use Rattle.zq_journal.proofs.BoundedTails.{bounded_state}
use Rattle.zq_journal.proofs.MadeHere.{took_over}
use Rattle.zq_journal.proofs.Pushed.{pushed_bytes, pushed_is, pushed_stands}
use Rattle.zq_journal.proofs.Weighed.{bytes_bounded}
use Rattle.zq_journal.specs.BookView.{book_of, records_of}
use Rattle.zq_journal.specs.Books.{state_of, step_of}
use Rattle.zq_journal.specs.Records.{IsRecordable, Took}
use Rattle.zq_journal.specs.declared.records.Record as code
use Rattle.zq_shard.specs.Shard.{HeapImage, IsOfHeap}
use Rattle.zq_model.specs.Sets.{New, taken_of}
use Rattle.zq_journal.proofs.book.Book.enter_from.Goals as goal

-- the box has the operation then, with its names
own_is : (c : goal.After-self-3-1) → c.swap_names.new.self ≡ c.args.op.now
own_is c =
    c.swap_names.ensures.own
    ∙ ap (λ (p : Placed). renamed p c.args.op.now.operation.key c.args.op.now.operation.member) (c.deref_mut.ensures.value ∙ c.in_ok-own.ensures.ok ∙ c.bare.ensures)

key_long : (c : goal.After-self-3-1) → length c.key.result.now ≡ length c.args.op.now.operation.key
key_long c = ap length c.key.ensures.same ∙ ap (λ (p : Placed). length p.operation.key) (c.deref.ensures ∙ own_is c)

member_long : (c : goal.After-self-3-1) → length c.member.result.now ≡ length c.args.op.now.operation.member
member_long c = ap length c.member.ensures.same ∙ ap (λ (p : Placed). length p.operation.member) (c.deref-2.ensures ∙ own_is c)

of_heap : (c : goal.After-self-3-1) → IsOfHeap c.self.inside.shard c.args.op.now
of_heap c = subst (λ (q : Book). IsOfHeap (state_of q) c.args.op.now) (sym c.self.view_is) c.requires.placed

ranged : (c : goal.After-self-3-1) → IsRanged c.args.op.now
ranged c = first_of (search rules, grind arith)

over : (c : goal.After-self-3-1) → is_change_over c.self.inside.shard.heaps c.self.inside.shard.heap c.self.inside.shard.image.vector (book.Took c.args.op.now.operation) ≡ true
over c =
    let s : HeapImage = c.self.inside.shard in
    let here = of_heap c in
    let bounded = bounded_state s c.self.inside.vector (records_of c.self.inside) (limits_of c.self.inside.limits) c.self.inside.handed c.self.inside.stamp c.self.inside.count c.self.invariant.standing in
    let new : taken_of s.image.vector c.args.op.now.operation ≡ New = subst (λ (q : Book). taken_of q.state.vector c.args.op.now.operation ≡ New) (sym c.self.view_is) c.requires.new in
    took_over s.heaps s.heap s.image.vector c.args.op.now here.heaps here.heap here.placed bounded.counters.wide (ranged c) new

items_are : (c : goal.After-self-3-1) (r : code.Record) → c.push_back_reserved.new.self.items ≡ c.reserve.new.self.items ++ r ∷ [] → c.push_back_reserved.new.self.items ≡ c.self.inside.tail.items ++ r ∷ []
items_are c r is = is ∙ ap (λ xs. xs ++ r ∷ []) c.in_ok-reserve.ensures.items

pub overflow_add-self : goal.overflow_add-self
overflow_add-self c =
    let most = bytes_bounded c.self.inside.shard c.self.inside.vector c.self.inside.tail.items (limits_of c.self.inside.limits) c.self.inside.handed c.self.inside.stamp c.self.inside.count c.self.invariant.standing in
    omega (arith, most, c.self.invariant.bytes, c.key.ensures.short, c.member.ensures.short)

pub invariant_of-self-2 : goal.invariant_of-self-2
invariant_of-self-2 c =
    let s : HeapImage = c.self.inside.shard in
    let b : Book = book_of c.self.inside in
    let p : Placed = c.args.op.now in
    let here = of_heap c in
    let stamp_is : b.stamp ≡ c.args.self.now.stamp = ap (λ q. q.stamp) c.self.view_is in
    let count_is : b.count ≡ c.args.self.now.count = ap (λ q. q.count) c.self.view_is in
    let rises : b.stamp ≤ c.args.at = omega (arith, stamp_is, c.requires.stamp) in
    let own : IsRecordable s.heap s.heaps p = record { heap = here.heap; heaps = here.heaps; placed = here.placed; sound = ranged c } in
    let e = c.in_ok-before.ensures in
    record {
      standing =
          pushed_stands s c.put_in.new.self c.self.inside.vector c.self.inside.tail.items c.push_back_reserved.new.self.items _ (Took p) (limits_of c.self.inside.limits) c.self.inside.handed c.self.inside.stamp c.self.inside.count c.self.invariant.standing
          (ap Took (own_is c)) (items_are c _ c.push_back_reserved.ensures.items) e.heap e.heaps e.rule e.taken e.before
          (c.keeping.ensures.recording b c.args.at (book.Took p.operation) rises (over c) c.self.invariant.standing.book) own c.requires.bounded (omega (arith, count_is, c.requires.count));
      bytes =
          let more = pushed_bytes s c.put_in.new.self c.self.inside.vector c.self.inside.tail.items c.push_back_reserved.new.self.items _ (Took p) (limits_of c.self.inside.limits) c.self.inside.handed c.self.inside.stamp c.self.inside.count c.self.invariant.standing
          (ap Took (own_is c)) (items_are c _ c.push_back_reserved.ensures.items) e.heap e.heaps e.rule e.taken e.before in
          omega (arith, more, c.self.invariant.bytes, key_long c, member_long c);
    }

pub returns-clause-recorded : goal.returns-clause-recorded
returns-clause-recorded c =
    let e = c.in_ok-before.ensures in
    pushed_is c.self.inside.shard c.put_in.new.self c.self.inside.vector c.self.inside.tail.items c.push_back_reserved.new.self.items _ (Took c.args.op.now) (limits_of c.self.inside.limits) c.self.inside.handed c.self.inside.stamp c.self.inside.count c.self.invariant.standing
    (ap Took (own_is c)) (items_are c _ c.push_back_reserved.ensures.items) e.heap e.heaps e.rule e.taken e.before
    ∙ ap (λ (q : Book). recorded q c.args.at (book.Took c.args.op.now.operation)) c.self.view_is

pub returns-clause-worked : goal.returns-clause-worked
returns-clause-worked c = λ a steps is.
    let here : is_change_over c.args.self.now.heaps c.args.self.now.heap c.args.self.now.state.vector (book.Took c.args.op.now.operation) ≡ true =
    subst (λ (q : Book). is_change_over q.heaps q.heap q.state.vector (book.Took c.args.op.now.operation) ≡ true) c.self.view_is (over c) in
    subst (λ (q : Book). IsWorked q a c.args.at (steps ++ step_of c.args.at (book.Took c.args.op.now.operation) ∷ [])) (sym (returns-clause-recorded c))
    (c.working.ensures.records c.args.self.now a c.args.at steps (book.Took c.args.op.now.operation) is here)
