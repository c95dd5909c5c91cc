use Rattle.std.proofs.Common.{List, ℕ, length, arith, subst, sym, ◌∙◌}
use Rattle.zq_wal.specs.Disk.{Only}
use Rattle.zq_wal.specs.Format.{recovered}
use Rattle.zq_wal.specs.Wal.{IsNext}
use Rattle.zq_wal.proofs.Outcomes.{floors_grow}
use Rattle.zq_wal.proofs.Runs.{stays, settled_log}
use Rattle.zq_wal.proofs.wal.Wal.sync.Goals as goal

pub returns-in_err-sync-clause-any_moment : goal.returns-in_err-sync-clause-any_moment
returns-in_err-sync-clause-any_moment g c =
    stays g.D.Disk.seen g.D.Disk.staged g.D.Disk.may_leave g.D.Disk.moment g.D.Disk.left_since g.met.D.Disk.only_now c.args.self.now c.sync.new.self c.requires c.sync.ensures.time c.sync.ensures.crash

pub returns-clause-any_moment : goal.returns-clause-any_moment
returns-clause-any_moment g c =
    stays g.D.Disk.seen g.D.Disk.staged g.D.Disk.may_leave g.D.Disk.moment g.D.Disk.left_since g.met.D.Disk.only_now c.args.self.now c.sync.new.self c.requires c.sync.ensures.time c.sync.ensures.crash

pub returns-clause-log : goal.returns-clause-log
returns-clause-log g c =
    let s = c.requires in
    let payloads = recovered (g.D.Disk.seen c.args.self.now.disk) in
    settled_log g.D.Disk.seen g.D.Disk.staged g.D.Disk.may_leave g.D.Disk.moment g.D.Disk.left_since g.met.D.Disk.only_now
    (record { disk = c.sync.new.self; count = c.args.self.now.count; synced = c.args.self.now.count; next = c.args.self.now.next }) payloads (c.sync.ensures.seen ∙ s.file) s.count s.count
    (floors_grow c.args.self.now.synced (length payloads) payloads (omega (arith, s.synced, s.count)) s.floors)
    (subst (λ f. Only f (g.D.Disk.may_leave c.sync.new.self)) (sym c.sync.ensures.seen) c.in_ok-sync.ensures.durable)
    (subst (λ (l : List ℕ). IsNext c.args.self.now.next l) (sym c.sync.ensures.staged) s.next)
