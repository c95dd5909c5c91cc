use Rattle.std.proofs.Common.{◌<◌, ◌+◌, ◌∙◌, ap, arith}
use mathlib.Core.Option as maybe
use Rattle.atomic_table.specs.Table.{step}
use Rattle.zq_ticketlock.specs.Views.{Sat, is_idle, seen_by, turns_by}
use Rattle.zq_ticketlock.proofs.Stages.{holding_seat}
use Rattle.zq_ticketlock.proofs.Looks.{releases}
use Rattle.zq_ticketlock.proofs.Told.{filled, follows_given, released, turn_more, turn_only}
use Rattle.zq_ticketlock.proofs.lock.TicketLock.release.Goals as goal

pub store-requires : goal.store-requires
store-requires g c =
    let lock = c.args.self.now in
    let held = c.args.held in
    let told = c.exchange.ensures in
    let holds = g.T.Keeps.holds in
    let follows = g.T.Keeps.follows in
    let me = held.place.me in
    let after = c.exchange.new.seat in
    let words : 0 < lock.table.shared.table_id.words = omega (arith, lock.sized.0) in (
      told.0 ∙ c.requires.own,
      words,
      releases holds follows lock.table.shared.table_id.slots after.id held.ticket (holding_seat held.ticket me held.holding).0 held.value (holding_seat held.ticket me held.holding).1 after.me
          (filled holds follows held.ticket held.value me after.me held.holding told.3)
          c.requires.holds (follows_given holds follows held.ticket held.value me held.holding c.requires.follows) g.T.Keeps.reflexive g.T.Keeps.transitive,
    )

pub invariant_of-result : goal.invariant_of-result
invariant_of-result g c =
    let held = c.args.held in
    let is =
    released g.T.Keeps.holds g.T.Keeps.follows (step c.args.self.now.table.shared.table_id.slots 0 (held.ticket + 1) 0 maybe.none) held.ticket (held.ticket + 1) held.value held.place.me c.exchange.new.seat.me c.store.new.seat.me held.holding c.exchange.ensures.3 c.store.ensures.2 in
    record { idle = ap is_idle is }

pub returns-clause-seen : goal.returns-clause-seen
returns-clause-seen g c =
    let held = c.args.held in
    let is =
    released g.T.Keeps.holds g.T.Keeps.follows (step c.args.self.now.table.shared.table_id.slots 0 (held.ticket + 1) 0 maybe.none) held.ticket (held.ticket + 1) held.value held.place.me c.exchange.new.seat.me c.store.new.seat.me held.holding c.exchange.ensures.3 c.store.ensures.2 in
    ap (λ (m : Sat _). seen_by m.0) is

pub returns-clause-logged : goal.returns-clause-logged
returns-clause-logged g c =
    let held = c.args.held in
    let is =
    released g.T.Keeps.holds g.T.Keeps.follows (step c.args.self.now.table.shared.table_id.slots 0 (held.ticket + 1) 0 maybe.none) held.ticket (held.ticket + 1) held.value held.place.me c.exchange.new.seat.me c.store.new.seat.me held.holding c.exchange.ensures.3 c.store.ensures.2 in
    turn_more held.ticket held.value held.place.me held.holding (turns_by c.store.new.seat.me.0) (ap (λ (m : Sat _). turns_by m.0) is)

pub returns-clause-turns : goal.returns-clause-turns
returns-clause-turns g c =
    let held = c.args.held in
    turn_only held.ticket held.value held.place.me held.holding (turns_by c.store.new.seat.me.0) (returns-clause-logged g c)
