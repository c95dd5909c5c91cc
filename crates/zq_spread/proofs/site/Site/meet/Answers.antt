use Rattle.std.proofs.Common.{subst, sym, ◌≤◌, ◌∙◌}
use Rattle.std.specs.Prelude.{[], ℕ, ◌∷◌}
use Rattle.zq_spread.proofs.ManyHeaps.{seats_of}
use Rattle.zq_spread.proofs.site.Site.meet.Goals as goal
use Rattle.zq_spread.specs.LockedHeaps.{Follows}
use Rattle.zq_spread.specs.Meetings.{HaveLeft, HaveMet, HaveParted}
use Rattle.zq_spread.specs.Passes.{seen_at}
use Rattle.zq_spread.specs.Turns.{turns_at}
use Rattle.zq_spread.specs.Worn.{reached_at}
use Rattle.zq_ticketlock.specs.Limits.{last_ticket}
use Rattle.zq_ticketlock.specs.Seats.{logged}
use Rattle.zq_ticketlock.specs.Steps.{FollowsSeen}

pub take_seat-one-requires-clause-seats : goal.take_seat-one-requires-clause-seats
take_seat-one-requires-clause-seats g c = seats_of c.args.self.now (c.from-heap.result ∷ []) c.args.first.now c.requires.first

pub take_seat-other-requires-clause-seats : goal.take_seat-other-requires-clause-seats
take_seat-other-requires-clause-seats g c = seats_of c.args.self.now (c.from-heap.result ∷ []) c.args.second.now c.requires.second

pub returns-in-Ok-clause-met : goal.returns-in-Ok-clause-met
returns-in-Ok-clause-met g c =
    let h : ℕ = c.from-heap.result in
    let met = c.in-Ok.ensures.met in
    let one = c.take_seat-one.ensures.seen in
    let other = c.take_seat-other.ensures.seen in
    let there : HaveMet (seen_at c.args.first.now h) (seen_at c.args.second.now h) (seen_at c.put_seat.new.pass h) (seen_at c.put_seat-in-Ok.new.pass h) = (
      met.0,
      met.1,
      c.put_seat.ensures.seen ∙ met.2,
      c.put_seat-in-Ok.ensures.seen ∙ met.3,
      subst (λ o. FollowsSeen Follows met.0 o) one met.4,
      subst (λ o. FollowsSeen Follows met.0 o) other met.5,
      subst (λ o. FollowsSeen Follows met.1 o) other met.6,
      met.7,
    ) in
    subst (λ k. HaveMet (seen_at c.args.first.now k) (seen_at c.args.second.now k) (seen_at c.put_seat.new.pass k) (seen_at c.put_seat-in-Ok.new.pass k)) c.from-heap.ensures there

pub returns-in-Err-clause-worn : goal.returns-in-Err-clause-worn
returns-in-Err-clause-worn g c =
    let h : ℕ = c.from-heap.result in
    let worn = c.in-Err.ensures.worn in
    let one = c.take_seat-one.ensures.seen in
    let other = c.take_seat-other.ensures.seen in
    let there : HaveParted (seen_at c.args.first.now h) (seen_at c.args.second.now h) (seen_at c.put_seat-in-Err.new.pass h) (seen_at c.put_seat-in-Err-2.new.pass h) = (
      worn.0,
      c.put_seat-in-Err.ensures.seen ∙ worn.1,
      c.put_seat-in-Err-2.ensures.seen ∙ worn.2,
      subst (λ o. FollowsSeen Follows worn.0 o) one worn.3,
      subst (λ o. FollowsSeen Follows worn.0 o) other worn.4,
    ) in
    subst (λ k. HaveParted (seen_at c.args.first.now k) (seen_at c.args.second.now k) (seen_at c.put_seat-in-Err.new.pass k) (seen_at c.put_seat-in-Err-2.new.pass k)) c.from-heap.ensures there

pub returns-in-Ok-clause-left : goal.returns-in-Ok-clause-left
returns-in-Ok-clause-left g c =
    let h : ℕ = c.from-heap.result in
    let first = c.args.first.now in
    let second = c.args.second.now in
    let one = c.take_seat-one.ensures.turns in
    let other = c.take_seat-other.ensures.turns in
    let there : HaveLeft (turns_at first h) (turns_at second h) (turns_at c.put_seat.new.pass h) (turns_at c.put_seat-in-Ok.new.pass h) =
    subst (λ l. HaveLeft (turns_at first h) (turns_at second h) l (turns_at c.put_seat-in-Ok.new.pass h)) (sym c.put_seat.ensures.turns)
    (subst (λ l. HaveLeft (turns_at first h) (turns_at second h) (logged c.in-Ok.one) l) (sym c.put_seat-in-Ok.ensures.turns)
    (subst (λ l. HaveLeft l (turns_at second h) (logged c.in-Ok.one) (logged c.in-Ok.other)) one
    (subst (λ l. HaveLeft (logged c.take_seat-one.result) l (logged c.in-Ok.one) (logged c.in-Ok.other)) other c.in-Ok.ensures.left))) in
    subst (λ k. HaveLeft (turns_at first k) (turns_at second k) (turns_at c.put_seat.new.pass k) (turns_at c.put_seat-in-Ok.new.pass k)) c.from-heap.ensures there

pub returns-in-Err-clause-left : goal.returns-in-Err-clause-left
returns-in-Err-clause-left g c =
    let h : ℕ = c.from-heap.result in
    let first = c.args.first.now in
    let second = c.args.second.now in
    let one = c.take_seat-one.ensures.turns in
    let other = c.take_seat-other.ensures.turns in
    let there : HaveLeft (turns_at first h) (turns_at second h) (turns_at c.put_seat-in-Err.new.pass h) (turns_at c.put_seat-in-Err-2.new.pass h) =
    subst (λ l. HaveLeft (turns_at first h) (turns_at second h) l (turns_at c.put_seat-in-Err-2.new.pass h)) (sym c.put_seat-in-Err.ensures.turns)
    (subst (λ l. HaveLeft (turns_at first h) (turns_at second h) (logged c.in-Err.one) l) (sym c.put_seat-in-Err-2.ensures.turns)
    (subst (λ l. HaveLeft l (turns_at second h) (logged c.in-Err.one) (logged c.in-Err.other)) one
    (subst (λ l. HaveLeft (logged c.take_seat-one.result) l (logged c.in-Err.one) (logged c.in-Err.other)) other c.in-Err.ensures.worn_left))) in
    subst (λ k. HaveLeft (turns_at first k) (turns_at second k) (turns_at c.put_seat-in-Err.new.pass k) (turns_at c.put_seat-in-Err-2.new.pass k)) c.from-heap.ensures there

pub returns-in-Err-clause-last : goal.returns-in-Err-clause-last
returns-in-Err-clause-last g c =
    let h : ℕ = c.from-heap.result in
    let found : last_ticket ≤ reached_at c.put_seat-in-Err.new.pass h = subst (λ n. last_ticket ≤ n) (sym c.put_seat-in-Err.ensures.reached) c.in-Err.ensures.last in
    subst (λ k. last_ticket ≤ reached_at c.put_seat-in-Err.new.pass k) c.from-heap.ensures found
