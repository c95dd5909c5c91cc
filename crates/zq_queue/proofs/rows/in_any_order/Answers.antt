use Rattle.std.proofs.Common.{refl}
use Rattle.zq_queue.proofs.Rowed.{one_row}
use Rattle.zq_queue.proofs.rows.in_any_order.Goals as goal

pub loop-member-init : goal.loop-member-init
loop-member-init c =
    rw (c.in_ok-rows.ensures.items, c.into_iter-member-iterator.ensures.into_iter_gives) c.iter-member-items.ensures.lists

pub loop-member-preserved : goal.loop-member-preserved
loop-member-preserved c =
    one_row c.args.members.now.entries c.loop-member.rows.items c.push.new.self.items c.loop-member.member-iterator c.next.new.self
    _ (c.in-Some.member, c.in-Some.entry) c.in-Some.ensures.steps c.in_ok-push.ensures.items refl c.loop-member.invariant
