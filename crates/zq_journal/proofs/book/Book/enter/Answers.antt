use Rattle.std.proofs.Common.{[], ap, arith, length, refl, subst, sym, true, ◌++◌, ◌∙◌, ◌∷◌, ◌≡◌, ◌≤◌}
use Rattle.zq_model.proofs.NewRecords.{change_is_new}
use Rattle.zq_model.specs.Books.{Book, is_change_over, recorded}
use Rattle.zq_model.specs.Reach.{IsWorked}
use Rattle.zq_journal.specs.Limits.{limits_of}
use Rattle.zq_journal.proofs.Missing.{operation_is}
use Rattle.zq_journal.proofs.Pushed.{pushed_bytes, pushed_is, pushed_stands}
use Rattle.zq_journal.proofs.Weighed.{bytes_bounded}
use Rattle.zq_journal.specs.BookView.{book_of}
use Rattle.zq_journal.specs.Books.{step_of}
use Rattle.zq_journal.specs.Records.{Change, IsRecordable, bytes_kept_in, change_of, placed_in, records_in, whole}
use Rattle.zq_journal.specs.Standing.{IsStanding}
use Rattle.zq_journal.specs.declared.records.Record as code
use Rattle.zq_model.specs.Sets.{New, taken_of}
use Rattle.zq_shard.specs.Shard.{HeapImage}
use Rattle.zq_journal.proofs.book.Book.enter.Goals as goal

pub put_in-requires-clause-own : goal.put_in-requires-clause-own
put_in-requires-clause-own c =
    subst (λ (q : Book). IsRecordable q.heap q.heaps (placed_in (whole q.heap q.heaps q.state.vector c.args.what))) (sym c.self.view_is) c.requires.recordable

pub put_in-requires-clause-new : goal.put_in-requires-clause-new
put_in-requires-clause-new c =
    let s : HeapImage = c.self.inside.shard in
    let change : Change = whole s.heap s.heaps s.image.vector c.args.what in
    let over : is_change_over s.heaps s.heap s.image.vector (change_of change) ≡ true =
    subst (λ (q : Book). is_change_over q.heaps q.heap q.state.vector (change_of (whole q.heap q.heaps q.state.vector c.args.what)) ≡ true) (sym c.self.view_is) c.requires.over in
    subst (λ o. taken_of s.image.vector o ≡ New) (operation_is change) (change_is_new s.heaps s.heap s.image.vector (change_of change) over).1

pub invariant_of-self-in_err-before : goal.invariant_of-self-in_err-before
invariant_of-self-in_err-before c = record {
  standing =
      subst (λ s. IsStanding s c.self.inside.vector (records_in s c.self.inside.vector c.reserve.new.self.items) (limits_of c.self.inside.limits) c.self.inside.handed c.self.inside.stamp c.self.inside.count) (sym c.in_err-before.ensures.refused)
      (subst (λ rs. IsStanding c.self.inside.shard c.self.inside.vector (records_in c.self.inside.shard c.self.inside.vector rs) (limits_of c.self.inside.limits) c.self.inside.handed c.self.inside.stamp c.self.inside.count)
      (sym c.in_ok-reserve.ensures.items) c.self.invariant.standing);
  bytes = c.self.invariant.bytes ∙ ap bytes_kept_in (sym c.in_ok-reserve.ensures.items);
}

pub overflow_add-self-2 : goal.overflow_add-self-2
overflow_add-self-2 c =
    let key = ap length c.requires.key in
    let member = ap length c.requires.member in
    let most = bytes_bounded c.self.inside.shard c.self.inside.vector c.self.inside.tail.items (limits_of c.self.inside.limits) c.self.inside.handed c.self.inside.stamp c.self.inside.count c.self.invariant.standing in
    omega (arith, key, member, most, c.self.invariant.bytes, c.requires.recordable.sound.key, c.requires.recordable.sound.member)

pub invariant_of-self-2 : goal.invariant_of-self-2
invariant_of-self-2 c =
    let s : HeapImage = c.self.inside.shard in
    let b : Book = book_of c.self.inside in
    let change : Change = whole s.heap s.heaps s.image.vector c.args.what in
    let over : is_change_over b.heaps b.heap b.state.vector (change_of change) ≡ true =
    subst (λ (q : Book). is_change_over q.heaps q.heap q.state.vector (change_of (whole q.heap q.heaps q.state.vector c.args.what)) ≡ true) (sym c.self.view_is) c.requires.over in
    let own : IsRecordable s.heap s.heaps (placed_in change) =
    subst (λ (q : Book). IsRecordable q.heap q.heaps (placed_in (whole q.heap q.heaps q.state.vector c.args.what))) (sym c.self.view_is) c.requires.recordable in
    let stamp_is : b.stamp ≡ c.args.self.now.stamp = ap (λ q. q.stamp) c.self.view_is in
    let count_is : b.count ≡ c.args.self.now.count = ap (λ q. q.count) c.self.view_is in
    let rises : b.stamp ≤ c.args.at = omega (arith, stamp_is, c.requires.stamp) in
    let e = c.in_ok-before.ensures in
    let pushed : code.Record = record { stamp = c.args.at; what = c.args.what; before = c.in_ok-before.before } in
    let items : c.push_back_reserved.new.self.items ≡ c.self.inside.tail.items ++ pushed ∷ [] = c.push_back_reserved.ensures.items ∙ ap (λ xs. xs ++ pushed ∷ []) c.in_ok-reserve.ensures.items in
    record {
      standing =
          pushed_stands s c.put_in.new.shard c.self.inside.vector c.self.inside.tail.items c.push_back_reserved.new.self.items pushed change (limits_of c.self.inside.limits) c.self.inside.handed c.self.inside.stamp c.self.inside.count c.self.invariant.standing
          refl items e.heap e.heaps e.rule e.image e.before (c.keeping.ensures.recording b c.args.at (change_of change) rises over c.self.invariant.standing.book) own c.requires.bounded (omega (arith, count_is, c.requires.count));
      bytes =
          let more = pushed_bytes s c.put_in.new.shard c.self.inside.vector c.self.inside.tail.items c.push_back_reserved.new.self.items pushed change (limits_of c.self.inside.limits) c.self.inside.handed c.self.inside.stamp c.self.inside.count c.self.invariant.standing
          refl items e.heap e.heaps e.rule e.image e.before in
          let same : whole c.args.self.now.heap c.args.self.now.heaps c.args.self.now.state.vector c.args.what ≡ change = ap (λ (q : Book). whole q.heap q.heaps q.state.vector c.args.what) (sym c.self.view_is) in
          let key = ap length c.requires.key ∙ ap (λ (q : Change). length (placed_in q).operation.key) same in
          let member = ap length c.requires.member ∙ ap (λ (q : Change). length (placed_in q).operation.member) same in
          omega (arith, more, c.self.invariant.bytes, key, member);
    }

pub returns-clause-recorded : goal.returns-clause-recorded
returns-clause-recorded c =
    let s : HeapImage = c.self.inside.shard in
    let change : Change = whole s.heap s.heaps s.image.vector c.args.what in
    let e = c.in_ok-before.ensures in
    let pushed : code.Record = record { stamp = c.args.at; what = c.args.what; before = c.in_ok-before.before } in
    let items : c.push_back_reserved.new.self.items ≡ c.self.inside.tail.items ++ pushed ∷ [] = c.push_back_reserved.ensures.items ∙ ap (λ xs. xs ++ pushed ∷ []) c.in_ok-reserve.ensures.items in
    pushed_is s c.put_in.new.shard c.self.inside.vector c.self.inside.tail.items c.push_back_reserved.new.self.items pushed change (limits_of c.self.inside.limits) c.self.inside.handed c.self.inside.stamp c.self.inside.count c.self.invariant.standing
    refl items e.heap e.heaps e.rule e.image e.before
    ∙ ap (λ (q : Book). recorded q c.args.at (change_of (whole q.heap q.heaps q.state.vector c.args.what))) c.self.view_is

pub returns-clause-worked : goal.returns-clause-worked
returns-clause-worked c = λ a steps is.
    let change : Change = whole c.args.self.now.heap c.args.self.now.heaps c.args.self.now.state.vector c.args.what in
    subst (λ (q : Book). IsWorked q a c.args.at (steps ++ step_of c.args.at (change_of change) ∷ [])) (sym (returns-clause-recorded c))
    (c.working.ensures.records c.args.self.now a c.args.at steps (change_of change) is c.requires.over)
