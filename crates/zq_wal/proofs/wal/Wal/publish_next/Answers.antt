use Rattle.std.proofs.Common.{arith, length, subst, sym, ◌∙◌}
use Rattle.std.specs.Prelude.{None}
use Rattle.zq_wal.specs.Disk.{Only}
use Rattle.zq_wal.specs.Format.{recovered}
use Rattle.zq_wal.specs.Wal.{KeepsEither}
use Rattle.zq_wal.proofs.Moments.{goes_on}
use Rattle.zq_wal.proofs.Outcomes.{floors_grow}
use Rattle.zq_wal.proofs.Runs.{next_is, next_published, next_synced, settled_log}
use Rattle.zq_wal.proofs.wal.Wal.publish_next.Goals as goal

pub returns-in_err-sync_next-clause-any_moment : goal.returns-in_err-sync_next-clause-any_moment
returns-in_err-sync_next-clause-any_moment g c =
    let log = c.args.self.now in
    let is = c.requires.log in
    let others = recovered (g.D.Disk.staged log.disk) in
    next_synced g.D.Disk.seen g.D.Disk.staged g.D.Disk.may_leave g.D.Disk.moment g.D.Disk.left_since g.met.D.Disk.only_now log c.sync_next.new.self others is c.sync_next.ensures.time c.sync_next.ensures.crash

pub returns-in_err-publish_next-clause-any_moment : goal.returns-in_err-publish_next-clause-any_moment
returns-in_err-publish_next-clause-any_moment g c =
    let log = c.args.self.now in
    let is = c.requires.log in
    let others = recovered (g.D.Disk.staged log.disk) in
    let P = KeepsEither (recovered (g.D.Disk.seen log.disk)) log.synced others in
    let had = next_is g.D.Disk.seen g.D.Disk.staged g.D.Disk.may_leave g.D.Disk.moment g.D.Disk.left_since g.met.D.Disk.only_now log c.unwrap-count.result is c.unwrap-count.ensures in
    let floors = floors_grow 0 (length others) others (omega arith) had.floors in
    let first = next_synced g.D.Disk.seen g.D.Disk.staged g.D.Disk.may_leave g.D.Disk.moment g.D.Disk.left_since g.met.D.Disk.only_now log c.sync_next.new.self others is c.sync_next.ensures.time c.sync_next.ensures.crash in
    let either = next_published g.D.Disk.seen g.D.Disk.staged g.D.Disk.may_leave g.D.Disk.moment g.D.Disk.left_since g.met.D.Disk.only_now log c.sync_next.new.self c.publish_next.new.self others
    (g.D.Disk.staged log.disk) (g.D.Disk.staged_may_leave c.sync_next.new.self) is c.sync_next.ensures.crash had.bytes floors c.in_ok-sync_next.ensures.durable c.publish_next.ensures.crash in
    let second = goes_on g.D.Disk.moment g.D.Disk.left_since log.disk c.sync_next.new.self c.publish_next.new.self P (g.D.Disk.may_leave c.publish_next.new.self) first c.publish_next.ensures.time either in
    second

pub returns-in_err-sync-clause-any_moment : goal.returns-in_err-sync-clause-any_moment
returns-in_err-sync-clause-any_moment g c =
    let log = c.args.self.now in
    let is = c.requires.log in
    let others = recovered (g.D.Disk.staged log.disk) in
    let P = KeepsEither (recovered (g.D.Disk.seen log.disk)) log.synced others in
    let had = next_is g.D.Disk.seen g.D.Disk.staged g.D.Disk.may_leave g.D.Disk.moment g.D.Disk.left_since g.met.D.Disk.only_now log c.unwrap-count.result is c.unwrap-count.ensures in
    let floors = floors_grow 0 (length others) others (omega arith) had.floors in
    let first = next_synced g.D.Disk.seen g.D.Disk.staged g.D.Disk.may_leave g.D.Disk.moment g.D.Disk.left_since g.met.D.Disk.only_now log c.sync_next.new.self others is c.sync_next.ensures.time c.sync_next.ensures.crash in
    let either = next_published g.D.Disk.seen g.D.Disk.staged g.D.Disk.may_leave g.D.Disk.moment g.D.Disk.left_since g.met.D.Disk.only_now log c.sync_next.new.self c.publish_next.new.self others
    (g.D.Disk.staged log.disk) (g.D.Disk.staged_may_leave c.sync_next.new.self) is c.sync_next.ensures.crash had.bytes floors c.in_ok-sync_next.ensures.durable c.publish_next.ensures.crash in
    let second = goes_on g.D.Disk.moment g.D.Disk.left_since log.disk c.sync_next.new.self c.publish_next.new.self P (g.D.Disk.may_leave c.publish_next.new.self) first c.publish_next.ensures.time either in
    goes_on g.D.Disk.moment g.D.Disk.left_since log.disk c.publish_next.new.self c.sync.new.self P (g.D.Disk.may_leave c.sync.new.self) second c.sync.ensures.time (λ f now. either f (c.sync.ensures.crash f now))

pub returns-clause-any_moment : goal.returns-clause-any_moment
returns-clause-any_moment g c =
    let log = c.args.self.now in
    let is = c.requires.log in
    let others = recovered (g.D.Disk.staged log.disk) in
    let P = KeepsEither (recovered (g.D.Disk.seen log.disk)) log.synced others in
    let had = next_is g.D.Disk.seen g.D.Disk.staged g.D.Disk.may_leave g.D.Disk.moment g.D.Disk.left_since g.met.D.Disk.only_now log c.unwrap-count.result is c.unwrap-count.ensures in
    let floors = floors_grow 0 (length others) others (omega arith) had.floors in
    let first = next_synced g.D.Disk.seen g.D.Disk.staged g.D.Disk.may_leave g.D.Disk.moment g.D.Disk.left_since g.met.D.Disk.only_now log c.sync_next.new.self others is c.sync_next.ensures.time c.sync_next.ensures.crash in
    let either = next_published g.D.Disk.seen g.D.Disk.staged g.D.Disk.may_leave g.D.Disk.moment g.D.Disk.left_since g.met.D.Disk.only_now log c.sync_next.new.self c.publish_next.new.self others
    (g.D.Disk.staged log.disk) (g.D.Disk.staged_may_leave c.sync_next.new.self) is c.sync_next.ensures.crash had.bytes floors c.in_ok-sync_next.ensures.durable c.publish_next.ensures.crash in
    let second = goes_on g.D.Disk.moment g.D.Disk.left_since log.disk c.sync_next.new.self c.publish_next.new.self P (g.D.Disk.may_leave c.publish_next.new.self) first c.publish_next.ensures.time either in
    goes_on g.D.Disk.moment g.D.Disk.left_since log.disk c.publish_next.new.self c.sync.new.self P (g.D.Disk.may_leave c.sync.new.self) second c.sync.ensures.time (λ f now. either f (c.sync.ensures.crash f now))

pub returns-clause-log : goal.returns-clause-log
returns-clause-log g c =
    let log = c.args.self.now in
    let is = c.requires.log in
    let others = recovered (g.D.Disk.staged log.disk) in
    let had = next_is g.D.Disk.seen g.D.Disk.staged g.D.Disk.may_leave g.D.Disk.moment g.D.Disk.left_since g.met.D.Disk.only_now log c.unwrap-count.result is c.unwrap-count.ensures in
    let floors = floors_grow 0 (length others) others (omega arith) had.floors in
    settled_log g.D.Disk.seen g.D.Disk.staged g.D.Disk.may_leave g.D.Disk.moment g.D.Disk.left_since g.met.D.Disk.only_now
    (record { disk = c.sync.new.self; count = c.unwrap-count.result; synced = c.unwrap-count.result; next = None }) others
    (c.sync.ensures.seen ∙ c.in_ok-publish_next.ensures.published ∙ c.sync_next.ensures.staged ∙ had.bytes) had.count had.count floors
    (subst (λ f. Only f (g.D.Disk.may_leave c.sync.new.self)) (sym c.sync.ensures.seen) c.in_ok-sync.ensures.durable) tt
