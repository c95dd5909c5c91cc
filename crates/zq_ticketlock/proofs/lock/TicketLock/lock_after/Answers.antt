use Rattle.std.proofs.Common.{Option, ◌∙◌, subst}
use Rattle.zq_ticketlock.specs.Seats.{seen}
use Rattle.zq_ticketlock.specs.Steps.{FollowsSeen}
use Rattle.zq_ticketlock.proofs.Told.{follows_later}
use Rattle.zq_ticketlock.proofs.lock.TicketLock.lock_after.Goals as goal

pub returns-in-Ok-clause-follows : goal.returns-in-Ok-clause-follows
returns-in-Ok-clause-follows g c =
    let holds = g.T.Keeps.holds in
    let follows = g.T.Keeps.follows in
    let met = c.join.ensures.seen in
    let value = c.in-Ok.held.value in
    let later = subst (λ (o : Option _). FollowsSeen follows value o) (c.split-one.ensures.seen.0 ∙ met.1) c.in-Ok.ensures.follows in
    let last = follows_later holds follows g.T.Keeps.transitive value met.0 in
    (last (seen c.args.first) later met.2.0, last (seen c.args.second) later met.2.1)
