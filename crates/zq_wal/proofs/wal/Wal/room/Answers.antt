use Rattle.std.proofs.Common.{List, ℕ, subst, sym}
use Rattle.zq_wal.specs.Wal.{IsNext}
use Rattle.zq_wal.proofs.Runs.{next_begins, stays}
use Rattle.zq_wal.proofs.wal.Wal.room.Goals as goal

pub returns-clause-any_moment : goal.returns-clause-any_moment
returns-clause-any_moment g c =
    stays g.D.Disk.seen g.D.Disk.staged g.D.Disk.may_leave g.D.Disk.moment g.D.Disk.left_since g.met.D.Disk.only_now c.args.self.now c.room.new.self c.requires c.room.ensures.time c.room.ensures.crash

pub returns-clause-log : goal.returns-clause-log
returns-clause-log g c =
    let log = c.args.self.now in
    next_begins g.D.Disk.seen g.D.Disk.staged g.D.Disk.may_leave g.D.Disk.moment g.D.Disk.left_since g.met.D.Disk.only_now log c.room.new.self log.next c.requires
    c.room.ensures.seen c.room.ensures.crash (subst (λ (l : List ℕ). IsNext log.next l) (sym c.room.ensures.staged) c.requires.next)
