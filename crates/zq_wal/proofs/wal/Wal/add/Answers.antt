use Rattle.std.proofs.Common.{arith, subst, sym, ◌∙◌, ◌≤◌, List, ℕ}
use Rattle.zq_wal.specs.Format.{floor_of, payload_over}
use Rattle.zq_wal.proofs.Floors.{floor_written}
use Rattle.zq_wal.proofs.Runs.{begins_longer}
use Rattle.zq_wal.proofs.wal.Wal.add.Goals as goal

pub returns-in_err-payload-clause-any_moment : goal.returns-in_err-payload-clause-any_moment
returns-in_err-payload-clause-any_moment g c =
    begins_longer g.D.Disk.seen g.D.Disk.staged g.D.Disk.may_leave g.D.Disk.moment g.D.Disk.left_since g.met.D.Disk.only_now c.args.self.now (payload_over c.args.self.now.synced c.args.body.now) c.requires

pub append-requires-clause-floor : goal.append-requires-clause-floor
append-requires-clause-floor g c =
    subst (λ (l : List ℕ). floor_of l ≤ c.args.self.now.synced) (sym (c.deref.ensures.value ∙ c.in_ok-payload.ensures)) (floor_written c.args.self.now.synced c.args.body.now (omega arith))
