use Rattle.std.proofs.Common.{◌≡◌, ◌<◌, ◌∙◌, Some, ◌∷◌, arith, subst}
use Rattle.atomic_table.specs.Table.{rest}
use Rattle.zq_ticketlock.specs.Views.{first_of}
use Rattle.zq_ticketlock.proofs.Stages.{vacant_seat}
use Rattle.zq_ticketlock.proofs.Told.{value_in}
use Rattle.zq_ticketlock.proofs.Vacancies.{empties, fills}
use Rattle.zq_ticketlock.proofs.vacant.Vacant.fill.Goals as goal

pub load-requires : goal.load-requires
load-requires g c =
    let lock = c.args.self.lock in
    let place = c.args.self.place in
    let is = vacant_seat place.me c.args.self.vacant in
    let words : 0 < lock.table.shared.table_id.words = omega (arith, lock.sized.0) in
    (c.args.self.own, words, empties g.T.Keeps.holds g.T.Keeps.follows lock.table.shared.table_id.slots place.id is.0 place.me is.1)

pub load-requires-2 : goal.load-requires-2
load-requires-2 g c =
    let lock = c.args.self.lock in
    let me = c.args.self.place.me in
    let out = c.load.ensures in
    let put = c.exchange.ensures in
    let before = c.load.new.seat.me in
    let after = c.exchange.new.seat in
    let filled = subst (λ x. after.me ≡ (before.0, (0, Some x) ∷ rest before.1)) c.new.ensures put.3 in
    let words : 0 < lock.table.shared.table_id.words = omega (arith, lock.sized.0) in (
      put.0 ∙ out.0 ∙ c.args.self.own,
      words,
      fills g.T.Keeps.holds g.T.Keeps.follows lock.table.shared.table_id.slots after.id (first_of me.0) c.args.value after.me
          (value_in (first_of me.0) c.args.value before after.me out.2 filled) c.requires.holds g.T.Keeps.reflexive,
    )
