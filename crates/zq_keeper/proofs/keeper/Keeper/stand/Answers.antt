use Rattle.zq_keeper.proofs.Keeping.{unmoved}
use Rattle.zq_keeper.proofs.keeper.Keeper.stand.Goals as goal

pub returns : goal.returns
returns g c = λ is those.
    unmoved g.D.Disk.seen g.D.Disk.staged g.D.Disk.may_leave g.D.Disk.moment g.D.Disk.left_since
    g.met.D.Disk.only_now c.synced_stays.ensures.torn c.args.self.now those is
