use Rattle.std.proofs.Common.{◌<◌, arith}
use Rattle.zq_tally.proofs.Seatings.{deals}
use Rattle.zq_tally.proofs.tally.Tally.add_pass.Goals as goal

pub split_seat-place-requires : goal.split_seat-place-requires
split_seat-place-requires c =
    let seat = c.args.total.now.place in
    let words : 0 < c.args.self.now.table.shared.table_id.words = omega (arith, c.args.self.now.sized) in
    let spare : 0 < seat.me.0.kept = omega (arith, c.requires.spare) in
    (c.requires.own, words, deals seat.id seat.me.0 spare)
