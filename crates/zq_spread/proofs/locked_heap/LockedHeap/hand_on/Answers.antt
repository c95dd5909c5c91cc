use Rattle.std.proofs.Common.{arith, inl, inr, refl, sym, true≢false, ◌∙◌}
use Rattle.zq_journal.specs.Books.{LAST_STAMP}
use Rattle.zq_spread.proofs.Drained.{left_untold, told_so}
use Rattle.zq_spread.proofs.locked_heap.LockedHeap.hand_on.Goals as goal
use Rattle.zq_spread.proofs.locked_heap.LockedHeap.hand_on.Goals.{else-count-lt-LAST_COUNT-via-then-count-lt-LAST_COUNT+else-not-knows_handed, else-count-lt-LAST_COUNT-via-else-count-lt-LAST_COUNT}

pub hand_on-requires-clause-count : goal.hand_on-requires-clause-count
unfolding LAST_STAMP
hand_on-requires-clause-count c = omega (arith, c.count.ensures.same, c.if-count-lt-LAST_COUNT.true)

pub returns-then-not-knows_handed-clause-worked : goal.returns-then-not-knows_handed-clause-worked
unfolding LAST_STAMP
returns-then-not-knows_handed-clause-worked c = λ a begun.
    told_so c.args.self.now.book c.hand_on.new.self a c.args.stamp c.args.newest c.hand_on.ensures.worked
    (λ knows. true≢false (sym (c.knows_handed.ensures.1 knows) ∙ c.if-not-knows_handed.true))
    (λ last. omega (arith, c.count.ensures.same, c.if-count-lt-LAST_COUNT.true, last)) begun

pub returns-else-count-lt-LAST_COUNT-clause-worked : goal.returns-else-count-lt-LAST_COUNT-clause-worked
unfolding LAST_STAMP
returns-else-count-lt-LAST_COUNT-clause-worked c = λ a begun.
    left_untold c.args.self.now.book c.args.self.now.book a c.args.stamp c.args.newest refl
    (elim c.else-count-lt-LAST_COUNT.branch [
      | else-count-lt-LAST_COUNT-via-then-count-lt-LAST_COUNT+else-not-knows_handed w ↦ inl (w.knows_handed.ensures.0 w.if-not-knows_handed.false)
      | else-count-lt-LAST_COUNT-via-else-count-lt-LAST_COUNT w ↦ inr (omega (arith, c.count.ensures.same, c.count.ensures.bounded, w.if-count-lt-LAST_COUNT.false))
    ]) begun
