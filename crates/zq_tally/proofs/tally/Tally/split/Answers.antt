use Rattle.std.proofs.Common.{◌<◌, arith}
use Rattle.zq_tally.proofs.Seatings.{gives_first}
use Rattle.zq_tally.proofs.tally.Tally.split.Goals as goal

pub split_seat-place-requires : goal.split_seat-place-requires
split_seat-place-requires c =
    let seat = c.args.total.now.place in
    let words : 0 < c.args.self.now.table.shared.table_id.words = omega (arith, c.args.self.now.sized) in
    (c.requires.own, words, gives_first seat.id seat.me.0)
