use Rattle.zq_keeper.proofs.Turning.{seal_counted, seal_read}
use Rattle.zq_wal.specs.Format.{recovered}
use Rattle.zq_keeper.proofs.keeper.Keeper.seal.Goals as goal

pub returns-in_err-_whole-clause-any_moment : goal.returns-in_err-_whole-clause-any_moment
returns-in_err-_whole-clause-any_moment g c = λ going.
    c.stand.ensures (c.requires going) (recovered (g.D.Disk.seen c.args.self.now.wal.disk))

pub keep_next-requires-clause-read : goal.keep_next-requires-clause-read
keep_next-requires-clause-read g c =
    let k = c.args.self.now in
    let is = c.requires c.in_ok-_whole.ensures.going in
    seal_read k.identity k.start k.wal.next k.next (recovered (g.D.Disk.staged k.wal.disk))
    c.args.heap c.in_ok-_whole._whole c.in_ok-_whole.share.entry.items c.in_ok-_whole.share.next
    (is.begun c.in_ok-_whole.ensures.begun) is.next c.in_ok-_whole.ensures.entry
    c.in_ok-_whole.ensures.next

pub keep_next-requires-clause-counted : goal.keep_next-requires-clause-counted
keep_next-requires-clause-counted g c =
    let k = c.args.self.now in
    let is = c.requires c.in_ok-_whole.ensures.going in
    seal_counted k.identity k.start k.wal.next k.next (recovered (g.D.Disk.staged k.wal.disk))
    c.args.heap c.in_ok-_whole._whole c.in_ok-_whole.share.next is.next
    c.in_ok-_whole.ensures.next
