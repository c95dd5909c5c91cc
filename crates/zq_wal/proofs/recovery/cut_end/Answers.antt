use Rattle.std.proofs.Common.{◌≡◌, ◌∙◌, take}
use Rattle.zq_wal.specs.Wal.{Reads}
use Rattle.zq_wal.proofs.Replays.{on_ok}
use Rattle.zq_wal.proofs.Cuts.{cut_done_reads}
use Rattle.zq_wal.proofs.Moments.{goes_on}
use Rattle.zq_wal.proofs.Runs.{cut_again, read_again}
use Rattle.zq_wal.proofs.recovery.cut_end.Goals as goal

pub returns-in_err-cut-clause-any_moment : goal.returns-in_err-cut-clause-any_moment
returns-in_err-cut-clause-any_moment g c =
    let old = c.args.disk.now in
    let s = c.requires in
    let reads = read_again g.D.Disk.seen g.D.Disk.staged g.D.Disk.may_leave g.D.Disk.moment g.D.Disk.left_since g.met.D.Disk.only_now old s.durable in
    let cuts = cut_again g.D.Disk.seen g.D.Disk.staged g.D.Disk.may_leave g.D.Disk.moment g.D.Disk.left_since g.met.D.Disk.only_now old c.cut.new.self c.args.end s.durable s.front s.rest s.within c.cut.ensures.crash in
    goes_on g.D.Disk.moment g.D.Disk.left_since old old c.cut.new.self (Reads (g.D.Disk.seen old)) (g.D.Disk.may_leave c.cut.new.self) reads c.cut.ensures.time cuts

pub returns-clause-any_moment : goal.returns-clause-any_moment
returns-clause-any_moment g c =
    let old = c.args.disk.now in
    let s = c.requires in
    let P = Reads (g.D.Disk.seen old) in
    let reads = read_again g.D.Disk.seen g.D.Disk.staged g.D.Disk.may_leave g.D.Disk.moment g.D.Disk.left_since g.met.D.Disk.only_now old s.durable in
    let cuts = cut_again g.D.Disk.seen g.D.Disk.staged g.D.Disk.may_leave g.D.Disk.moment g.D.Disk.left_since g.met.D.Disk.only_now old c.cut.new.self c.args.end s.durable s.front s.rest s.within c.cut.ensures.crash in
    let cut = goes_on g.D.Disk.moment g.D.Disk.left_since old old c.cut.new.self P (g.D.Disk.may_leave c.cut.new.self) reads c.cut.ensures.time cuts in
    goes_on g.D.Disk.moment g.D.Disk.left_since old c.cut.new.self c.sync.new.self P (g.D.Disk.may_leave c.sync.new.self) cut c.sync.ensures.time (λ f now. cuts f (c.sync.ensures.crash f now))

pub returns-clause-reads : goal.returns-clause-reads
returns-clause-reads g c =
    let s = c.requires in
    let old = g.D.Disk.seen c.args.disk.now in
    let new = g.D.Disk.seen c.sync.new.self in
    let cut : new ≡ take c.args.end old = c.sync.ensures.seen ∙ c.in_ok-cut.ensures.cut in
    on_ok c.sync.result (cut_done_reads old new c.args.end cut s.front s.rest s.within)
