use Rattle.zq_keeper.proofs.Turning.{piece_counted, piece_read}
use Rattle.zq_wal.specs.Format.{recovered}
use Rattle.zq_keeper.proofs.keeper.Keeper.piece.Goals as goal

pub returns-in_err-share-clause-any_moment : goal.returns-in_err-share-clause-any_moment
returns-in_err-share-clause-any_moment g c = λ going.
    c.stand.ensures (c.requires going) (recovered (g.D.Disk.seen c.args.self.now.wal.disk))

pub keep_next-requires-clause-read : goal.keep_next-requires-clause-read
keep_next-requires-clause-read g c =
    let k = c.args.self.now in
    let is = c.requires c.in_ok-share.ensures.going in
    piece_read k.identity k.start k.wal.next k.next (recovered (g.D.Disk.staged k.wal.disk))
    k.heaps.items c.args.piece c.in_ok-share.share.entry.items c.in_ok-share.share.next
    (is.begun c.in_ok-share.ensures.begun) is.next c.in_ok-share.ensures.entry
    c.in_ok-share.ensures.next

pub keep_next-requires-clause-counted : goal.keep_next-requires-clause-counted
keep_next-requires-clause-counted g c =
    let k = c.args.self.now in
    let is = c.requires c.in_ok-share.ensures.going in
    piece_counted k.identity k.start k.wal.next k.next (recovered (g.D.Disk.staged k.wal.disk))
    k.heaps.items c.args.piece c.in_ok-share.share.next is.next c.in_ok-share.ensures.next
