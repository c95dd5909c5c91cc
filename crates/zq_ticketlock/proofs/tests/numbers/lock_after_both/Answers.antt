use mathlib.Core.List.{IsPrefix}
use Rattle.zq_ticketlock.specs.declared.tests.numbers.Numbers.{Numbers}
use Rattle.zq_ticketlock.specs.Seats.{seen}
use Rattle.zq_ticketlock.proofs.Told.{seen_some}
use Rattle.zq_ticketlock.proofs.tests.numbers.lock_after_both.Goals as goal

pub returns-clause-first : goal.returns-clause-first
returns-clause-first g c =
    seen_some (λ (x : Numbers). IsPrefix x.items.items c.in_ok-held.held.value.items.items) (seen c.args.first) c.has_seen.ensures c.in_ok-held.ensures.follows.0

pub returns-clause-second : goal.returns-clause-second
returns-clause-second g c =
    seen_some (λ (x : Numbers). IsPrefix x.items.items c.in_ok-held.held.value.items.items) (seen c.args.second) c.has_seen-2.ensures c.in_ok-held.ensures.follows.1
