use Rattle.std.proofs.Common.{◌≡◌, ◌+◌, ◌++◌, List, ℕ, length, subst, refl, ◌∙◌, ap}
use Rattle.zq_wal.specs.Disk.{Follows, Torn}
use Rattle.zq_wal.specs.Format.{encoded}
use Rattle.zq_wal.proofs.Runs.{appends, appended_log, appended_read, begins_longer, no_longer}
use Rattle.zq_wal.proofs.wal.Wal.append.Goals as goal

pub returns-then-self-ge-MAX_RECORDS-clause-any_moment : goal.returns-then-self-ge-MAX_RECORDS-clause-any_moment
returns-then-self-ge-MAX_RECORDS-clause-any_moment g c =
    begins_longer g.D.Disk.seen g.D.Disk.staged g.D.Disk.may_leave g.D.Disk.moment g.D.Disk.left_since g.met.D.Disk.only_now c.args.self.now c.args.payload.now c.requires.log

pub returns-in_err-encode-clause-any_moment : goal.returns-in_err-encode-clause-any_moment
returns-in_err-encode-clause-any_moment g c =
    begins_longer g.D.Disk.seen g.D.Disk.staged g.D.Disk.may_leave g.D.Disk.moment g.D.Disk.left_since g.met.D.Disk.only_now c.args.self.now c.args.payload.now c.requires.log

pub append-requires : goal.append-requires
append-requires g c = no_longer g.D.Disk.seen g.D.Disk.staged g.D.Disk.may_leave g.D.Disk.moment g.D.Disk.left_since g.met.D.Disk.only_now c.args.self.now c.requires.log

pub returns-in_err-append-clause-any_moment : goal.returns-in_err-append-clause-any_moment
returns-in_err-append-clause-any_moment g c =
    let bytes : c.deref.result.now ≡ encoded c.args.payload.now = c.deref.ensures.value ∙ c.in_ok-encode.ensures ∙ ap (λ (l : List ℕ). l ++ encoded c.args.payload.now) c.new-bytes.ensures.items in
    appends g.D.Disk.seen g.D.Disk.staged g.D.Disk.may_leave g.D.Disk.moment g.D.Disk.left_since g.met.D.Disk.only_now c.args.self.now c.append.new.self c.args.payload.now c.requires.log c.requires.floor
    c.append.ensures.time
    (subst (λ (l : List ℕ). Follows (Torn (length (g.D.Disk.seen c.args.self.now.disk)) l) (g.D.Disk.may_leave c.args.self.now.disk) (g.D.Disk.may_leave c.append.new.self)) bytes c.append.ensures.crash)

pub returns-clause-any_moment : goal.returns-clause-any_moment
returns-clause-any_moment g c =
    let bytes : c.deref.result.now ≡ encoded c.args.payload.now = c.deref.ensures.value ∙ c.in_ok-encode.ensures ∙ ap (λ (l : List ℕ). l ++ encoded c.args.payload.now) c.new-bytes.ensures.items in
    appends g.D.Disk.seen g.D.Disk.staged g.D.Disk.may_leave g.D.Disk.moment g.D.Disk.left_since g.met.D.Disk.only_now c.args.self.now c.append.new.self c.args.payload.now c.requires.log c.requires.floor
    c.append.ensures.time
    (subst (λ (l : List ℕ). Follows (Torn (length (g.D.Disk.seen c.args.self.now.disk)) l) (g.D.Disk.may_leave c.args.self.now.disk) (g.D.Disk.may_leave c.append.new.self)) bytes c.append.ensures.crash)

pub returns-clause-record : goal.returns-clause-record
returns-clause-record g c =
    let bytes : c.deref.result.now ≡ encoded c.args.payload.now = c.deref.ensures.value ∙ c.in_ok-encode.ensures ∙ ap (λ (l : List ℕ). l ++ encoded c.args.payload.now) c.new-bytes.ensures.items in
    appended_read g.D.Disk.seen g.D.Disk.staged g.D.Disk.may_leave g.D.Disk.moment g.D.Disk.left_since g.met.D.Disk.only_now c.args.self.now c.append.new.self c.args.payload.now c.requires.log
    (c.in_ok-append.ensures.written ∙ ap (λ (l : List ℕ). g.D.Disk.seen c.args.self.now.disk ++ l) bytes)

pub returns-clause-appended : goal.returns-clause-appended
returns-clause-appended g c =
    let bytes : c.deref.result.now ≡ encoded c.args.payload.now = c.deref.ensures.value ∙ c.in_ok-encode.ensures ∙ ap (λ (l : List ℕ). l ++ encoded c.args.payload.now) c.new-bytes.ensures.items in
    appended_log g.D.Disk.seen g.D.Disk.staged g.D.Disk.may_leave g.D.Disk.moment g.D.Disk.left_since g.met.D.Disk.only_now c.args.self.now
    (record { disk = c.append.new.self; count = c.args.self.now.count + 1; synced = c.args.self.now.synced; next = c.args.self.now.next }) c.args.payload.now c.requires.log c.requires.floor
    (c.in_ok-append.ensures.written ∙ ap (λ (l : List ℕ). g.D.Disk.seen c.args.self.now.disk ++ l) bytes) refl refl refl c.append.ensures.staged
    (subst (λ (l : List ℕ). Follows (Torn (length (g.D.Disk.seen c.args.self.now.disk)) l) (g.D.Disk.may_leave c.args.self.now.disk) (g.D.Disk.may_leave c.append.new.self)) bytes c.append.ensures.crash)
