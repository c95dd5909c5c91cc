use Rattle.zq_queue.proofs.Built.{compare_begins, not_same, one_same}
use Rattle.zq_queue.proofs.copies.is_within.Goals as goal

pub loop-member-init : goal.loop-member-init
loop-member-init c = compare_begins c.args.members.now.entries _ _ c.args.queue.now.entries c.iter-member-items.ensures.lists c.into_iter-member-iterator.ensures.into_iter_gives

pub returns-then-not-stands : goal.returns-then-not-stands
returns-then-not-stands c = (
  λ off. absurd (cc),
  λ all. absurd (not_same c.args.members.now.entries _ _ _ c.in-Some.ensures.steps c.args.queue.now.entries c.loop-member.invariant (λ is.
      let on = c.stands.ensures.1 is in
      let off = c.if-not-stands.true in
      cc) all),
)

pub loop-member-preserved : goal.loop-member-preserved
loop-member-preserved c = one_same c.args.members.now.entries _ _ _ c.in-Some.ensures.steps c.args.queue.now.entries c.loop-member.invariant (c.stands.ensures.0 c.if-not-stands.false)
