use Rattle.std.proofs.Common.{subst}
use Rattle.zq_keeper.proofs.Turning.{share_counted, share_read}
use Rattle.zq_keeper.specs.Turn.{IsShare}
use Rattle.zq_wal.specs.Format.{recovered}
use Rattle.zq_keeper.proofs.keeper.Keeper.add_share.Goals as goal

pub keep_next-requires-clause-read : goal.keep_next-requires-clause-read
keep_next-requires-clause-read g c =
    let k = c.args.self.now in
    share_read k.identity k.start k.wal.next k.next (recovered (g.D.Disk.staged k.wal.disk))
    c.args.batches.now c.in-Some.share (c.requires.keeper.begun c.requires.begun)
    c.requires.keeper.next
    (subst (IsShare k.identity c.args.batches.now k.next) c.in-Some.is c.requires.share)

pub keep_next-requires-clause-counted : goal.keep_next-requires-clause-counted
keep_next-requires-clause-counted g c =
    let k = c.args.self.now in
    share_counted k.identity k.start k.wal.next k.next (recovered (g.D.Disk.staged k.wal.disk))
    c.args.batches.now c.in-Some.share c.requires.keeper.next
    (subst (IsShare k.identity c.args.batches.now k.next) c.in-Some.is c.requires.share)

pub returns-in-None-clause-any_moment : goal.returns-in-None-clause-any_moment
returns-in-None-clause-any_moment g c =
    c.stand.ensures c.requires.keeper (recovered (g.D.Disk.seen c.args.self.now.wal.disk))
