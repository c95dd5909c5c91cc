use Rattle.zq_wal.specs.Format.{recovered}
use Rattle.zq_keeper.proofs.keeper.Keeper.room.Goals as goal

pub returns-in_err-started-clause-any_moment : goal.returns-in_err-started-clause-any_moment
returns-in_err-started-clause-any_moment g c = λ going.
    c.stand.ensures (c.requires going) (recovered (g.D.Disk.seen c.args.self.now.wal.disk))
