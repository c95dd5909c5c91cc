use Rattle.std.proofs.Common.{◌≡◌, ◌<◌, suc, length, ◌∙◌, ap, arith}
use Rattle.zq_tally.specs.Words.{id_of, passes_of}
use Rattle.zq_tally.proofs.Seatings.{leaves, gathers}
use Rattle.zq_tally.proofs.Lists.{first_and_others}
use Rattle.zq_tally.proofs.tally.Tally.+tally_with.Goals as goal

pub split_seat-place-requires : goal.split_seat-place-requires
split_seat-place-requires t c =
    let seat = c.args.first.now.place in
    let words : 0 < c.args.self.now.table.shared.table_id.words = omega (arith, c.args.self.now.sized) in
    (c.requires.own.1, words, leaves seat.id seat.me.0)

pub tally_with-requires : goal.tally_with-requires
tally_with-requires t c =
    let here = c.in-Some.ensures.cases in
    let parts = first_and_others (id_of c.args.self.now) c.args.others.now c.in-Some.rest.now c.in-Some.second.now here.0 c.requires.own.2 in
    let joined : length (passes_of c.join.new.total) ≡ suc (length (passes_of c.args.total.now)) = ap length c.join.ensures.joined in (
      omega (arith, c.decreases, here.1),
      ((c.join.ensures.stays.0 ∙ c.requires.own.0, parts.0, parts.1), omega (arith, joined, here.1, c.requires.all, c.join.ensures.stays.2)),
    )

pub join_seat-requires : goal.join_seat-requires
join_seat-requires t c =
    let words : 0 < c.args.self.now.table.shared.table_id.words = omega (arith, c.args.self.now.sized) in
    let left = c.split_seat-place in
    let back = c.split-place.result in (
      left.ensures.0 ∙ c.requires.own.1,
      c.split-place.ensures.table,
      back.no_slot,
      words,
      gathers left.new.seat.id back.place.id left.new.seat.me.0 back.place.me.0 back.no_total,
    )
