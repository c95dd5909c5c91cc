use Rattle.zq_wal.proofs.Runs.{next_begun, stays}
use Rattle.zq_wal.proofs.wal.Wal.begin_next.Goals as goal

pub returns-in_err-begin_next-clause-any_moment : goal.returns-in_err-begin_next-clause-any_moment
returns-in_err-begin_next-clause-any_moment g c =
    stays g.D.Disk.seen g.D.Disk.staged g.D.Disk.may_leave g.D.Disk.moment g.D.Disk.left_since g.met.D.Disk.only_now c.args.self.now c.begin_next.new.self c.requires c.begin_next.ensures.time c.begin_next.ensures.crash

pub returns-clause-any_moment : goal.returns-clause-any_moment
returns-clause-any_moment g c =
    stays g.D.Disk.seen g.D.Disk.staged g.D.Disk.may_leave g.D.Disk.moment g.D.Disk.left_since g.met.D.Disk.only_now c.args.self.now c.begin_next.new.self c.requires c.begin_next.ensures.time c.begin_next.ensures.crash

pub returns-clause-log : goal.returns-clause-log
returns-clause-log g c =
    next_begun g.D.Disk.seen g.D.Disk.staged g.D.Disk.may_leave g.D.Disk.moment g.D.Disk.left_since g.met.D.Disk.only_now c.args.self.now c.begin_next.new.self c.requires
    c.begin_next.ensures.seen c.in_ok-begin_next.ensures.staged c.begin_next.ensures.crash
