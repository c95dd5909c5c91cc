use Rattle.std.proofs.Common.{Some}
use Rattle.zq_keeper.proofs.Keeping.{commits}
use Rattle.zq_keeper.proofs.keeper.Keeper.keep.Goals as goal

pub returns-in-Ok-clause-any_moment : goal.returns-in-Ok-clause-any_moment
returns-in-Ok-clause-any_moment g c =
    commits g.D.Disk.seen g.D.Disk.staged g.D.Disk.may_leave g.D.Disk.moment g.D.Disk.left_since
    g.met.D.Disk.only_now
    c.args.self.now c.commit_bytes.new.self.disk c.args.turn.entry.items (Some c.args.turn.start)
    c.args.turn.heaps.items c.requires.keeper c.commit_bytes.ensures.any_moment c.requires.read
    c.requires.whole c.requires.covers

pub returns-in-Err-clause-any_moment : goal.returns-in-Err-clause-any_moment
returns-in-Err-clause-any_moment g c =
    commits g.D.Disk.seen g.D.Disk.staged g.D.Disk.may_leave g.D.Disk.moment g.D.Disk.left_since
    g.met.D.Disk.only_now
    c.args.self.now c.commit_bytes.new.self.disk c.args.turn.entry.items (Some c.args.turn.start)
    c.args.turn.heaps.items c.requires.keeper c.commit_bytes.ensures.any_moment c.requires.read
    c.requires.whole c.requires.covers
