use Rattle.std.proofs.Common.{Option, subst}
use mathlib.Core.List.{IsPrefix}
use Rattle.std.specs.Prelude.{IfSome}
use Rattle.zq_ticketlock.specs.declared.tests.numbers.Numbers.{Numbers}
use Rattle.zq_ticketlock.specs.Seats.{seen}
use Rattle.zq_ticketlock.specs.Prefixes.{prefix_trans}
use Rattle.zq_ticketlock.proofs.Told.{seen_some, follows_later}
use Rattle.zq_ticketlock.proofs.tests.numbers.lock_after_join.Goals as goal

abbrev follows : Numbers → Numbers → Type 0
follows later earlier = IsPrefix earlier.items.items later.items.items

-- what begins with a list that begins with all that was seen also begins with that
begins : (x y : Numbers) (o : Option Numbers) → follows x y → IfSome o (follows y) → IfSome o (follows x)
begins x y o = follows_later (λ (n : Numbers). Unit {0}) follows (λ a b d later earlier. prefix_trans d.items.items b.items.items a.items.items earlier later) x y o

pub returns-clause-first : goal.returns-clause-first
returns-clause-first g c =
    let value = c.in_ok-held.held.value in
    let met = c.join-seat.ensures.seen in
    let later = subst (λ (o : Option Numbers). IfSome o (follows value)) met.1 c.in_ok-held.ensures.follows in
    seen_some (follows value) (seen c.args.first) c.has_seen.ensures (begins value met.0 (seen c.args.first) later met.2.0)

pub returns-clause-second : goal.returns-clause-second
returns-clause-second g c =
    let value = c.in_ok-held.held.value in
    let met = c.join-seat.ensures.seen in
    let later = subst (λ (o : Option Numbers). IfSome o (follows value)) met.1 c.in_ok-held.ensures.follows in
    seen_some (follows value) (seen c.args.second) c.has_seen-2.ensures (begins value met.0 (seen c.args.second) later met.2.1)
