use Rattle.std.proofs.Common.{◌<◌, arith}
use Rattle.zq_tally.proofs.Seatings.{gathers}
use Rattle.zq_tally.proofs.tally.Tally.join.Goals as goal

pub join_seat-requires : goal.join_seat-requires
join_seat-requires c =
    let seat = c.args.total.now.place in
    let count = c.args.count in
    let words : 0 < c.args.self.now.table.shared.table_id.words = omega (arith, c.args.self.now.sized) in
    (c.requires.own.0, c.requires.own.1, count.no_slot, words, gathers seat.id count.place.id seat.me.0 count.place.me.0 count.no_total)
