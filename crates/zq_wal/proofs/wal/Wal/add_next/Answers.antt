use Rattle.std.proofs.Common.{◌≡◌, ◌++◌, List, ℕ, ◌∙◌, ap}
use Rattle.zq_wal.specs.Format.{encoded, payload_over}
use Rattle.zq_wal.proofs.Runs.{begins, next_longer, next_read, stays}
use Rattle.zq_wal.proofs.wal.Wal.add_next.Goals as goal

pub returns-then-count-ge-MAX_RECORDS-clause-any_moment : goal.returns-then-count-ge-MAX_RECORDS-clause-any_moment
returns-then-count-ge-MAX_RECORDS-clause-any_moment g c =
    begins g.D.Disk.seen g.D.Disk.staged g.D.Disk.may_leave g.D.Disk.moment g.D.Disk.left_since g.met.D.Disk.only_now c.args.self.now c.requires.log

pub returns-in_err-payload-clause-any_moment : goal.returns-in_err-payload-clause-any_moment
returns-in_err-payload-clause-any_moment g c =
    begins g.D.Disk.seen g.D.Disk.staged g.D.Disk.may_leave g.D.Disk.moment g.D.Disk.left_since g.met.D.Disk.only_now c.args.self.now c.requires.log

pub returns-in_err-encode-clause-any_moment : goal.returns-in_err-encode-clause-any_moment
returns-in_err-encode-clause-any_moment g c =
    begins g.D.Disk.seen g.D.Disk.staged g.D.Disk.may_leave g.D.Disk.moment g.D.Disk.left_since g.met.D.Disk.only_now c.args.self.now c.requires.log

pub returns-in_err-append_next-clause-any_moment : goal.returns-in_err-append_next-clause-any_moment
returns-in_err-append_next-clause-any_moment g c =
    stays g.D.Disk.seen g.D.Disk.staged g.D.Disk.may_leave g.D.Disk.moment g.D.Disk.left_since g.met.D.Disk.only_now c.args.self.now c.append_next.new.self c.requires.log c.append_next.ensures.time c.append_next.ensures.crash

pub returns-clause-any_moment : goal.returns-clause-any_moment
returns-clause-any_moment g c =
    stays g.D.Disk.seen g.D.Disk.staged g.D.Disk.may_leave g.D.Disk.moment g.D.Disk.left_since g.met.D.Disk.only_now c.args.self.now c.append_next.new.self c.requires.log c.append_next.ensures.time c.append_next.ensures.crash

pub returns-clause-log : goal.returns-clause-log
returns-clause-log g c =
    let payload : c.deref.result.now ≡ payload_over 0 c.args.body.now = c.deref.ensures.value ∙ c.in_ok-payload.ensures in
    let bytes : c.deref-2.result.now ≡ encoded (payload_over 0 c.args.body.now) =
    c.deref-2.ensures.value ∙ c.in_ok-encode.ensures ∙ ap (λ (l : List ℕ). l ++ encoded c.deref.result.now) c.new-bytes.ensures.items ∙ ap encoded payload in
    next_longer g.D.Disk.seen g.D.Disk.staged g.D.Disk.may_leave g.D.Disk.moment g.D.Disk.left_since g.met.D.Disk.only_now c.args.self.now c.append_next.new.self c.unwrap-count.result c.args.body.now
    c.requires.log c.unwrap-count.ensures c.append_next.ensures.seen (c.in_ok-append_next.ensures.staged ∙ ap (λ (l : List ℕ). g.D.Disk.staged c.args.self.now.disk ++ l) bytes) c.append_next.ensures.crash

pub returns-clause-record : goal.returns-clause-record
returns-clause-record g c =
    let payload : c.deref.result.now ≡ payload_over 0 c.args.body.now = c.deref.ensures.value ∙ c.in_ok-payload.ensures in
    let bytes : c.deref-2.result.now ≡ encoded (payload_over 0 c.args.body.now) =
    c.deref-2.ensures.value ∙ c.in_ok-encode.ensures ∙ ap (λ (l : List ℕ). l ++ encoded c.deref.result.now) c.new-bytes.ensures.items ∙ ap encoded payload in
    next_read g.D.Disk.seen g.D.Disk.staged g.D.Disk.may_leave g.D.Disk.moment g.D.Disk.left_since g.met.D.Disk.only_now c.args.self.now c.append_next.new.self c.unwrap-count.result c.args.body.now
    c.requires.log c.unwrap-count.ensures (c.in_ok-append_next.ensures.staged ∙ ap (λ (l : List ℕ). g.D.Disk.staged c.args.self.now.disk ++ l) bytes)
