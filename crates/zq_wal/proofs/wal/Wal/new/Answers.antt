use Rattle.std.specs.Prelude.{None}
use Rattle.zq_wal.specs.Format.{recovered}
use Rattle.zq_wal.proofs.Alarms.{floors_of_sound}
use Rattle.zq_wal.proofs.Runs.{settled_log}
use Rattle.zq_wal.proofs.wal.Wal.new.Goals as goal

pub returns-clause-log : goal.returns-clause-log
returns-clause-log g c =
    let s = c.requires in
    settled_log g.D.Disk.seen g.D.Disk.staged g.D.Disk.may_leave g.D.Disk.moment g.D.Disk.left_since g.met.D.Disk.only_now
    (record { disk = c.args.disk; count = c.args.count; synced = c.args.count; next = None }) (recovered (g.D.Disk.seen c.args.disk)) s.file s.count s.count
    (floors_of_sound (g.D.Disk.seen c.args.disk) s.file s.sound) s.durable tt
