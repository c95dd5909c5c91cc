use Rattle.std.proofs.Common.{◌<◌, arith}
use Rattle.zq_tally.proofs.Seatings.{looks}
use Rattle.zq_tally.proofs.tally.Tally.look.Goals as goal

pub load-requires : goal.load-requires
load-requires c =
    let table = c.args.self.now.table.shared.table_id in
    let total = c.args.total.now in
    let words : 0 < table.words = omega (arith, c.args.self.now.sized) in
    (c.requires.own, words, looks table.slots total.place.id total.steps total.place.me total.counted)
