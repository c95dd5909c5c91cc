use Rattle.std.proofs.Common.{ap, inl, inr, ⊎_elim, ◌∙◌, Vec}
use Rattle.std.specs.declared.alloc.Global.{Global}
use Rattle.zq_wal.specs.declared.image.Image.{Image}
use Rattle.zq_wal.proofs.Images.{now_same, replaced_elapses, replaced_was, same_elapses, same_left}
use Rattle.zq_wal.proofs.memory_disk.MemoryDiskDisk.publish_next.Goals as goal

pub returns-in_err-replace-clause-crash : goal.returns-in_err-replace-clause-crash
returns-in_err-replace-clause-crash c = λ f left.
    let self = c.args.self.now in
    let same = c.in_err-replace.ensures.refused in
    inl (now_same self.log c.replace.new.self.log self.elders.items c.replace.new.self.elders.items same.0 same.1 f left)

pub returns-in_err-replace-clause-time : goal.returns-in_err-replace-clause-time
returns-in_err-replace-clause-time c =
    let self = c.args.self.now in
    let new = c.replace.new.self in
    let same = c.in_err-replace.ensures.refused in
    same_elapses self.log new.log self.elders.items new.elders.items self.past.items new.past.items same.0 same.1 (ap (λ (v : Vec Image Global). v.items) c.replace.ensures.same.1)

pub returns-clause-crash : goal.returns-clause-crash
returns-clause-crash c = λ f left.
    let self = c.args.self.now in
    let new = c.replace.new.self in
    let elder = c.in_ok-replace.ensures.elders in
    let log = c.in_ok-replace.ensures.log in
    ⊎_elim (λ old. inl old)
    (λ now. inr (same_left self.next new.log f (ap (λ (image : Image). image.firm.items) log ∙ c.in_ok-whole.ensures.firm) (ap (λ (image : Image). image.loose.items) log ∙ c.in_ok-whole.ensures.loose) now))
    (replaced_was self.log new.log elder.0 self.elders.items new.elders.items elder.1 elder.2 elder.3 f left)

pub returns-clause-time : goal.returns-clause-time
returns-clause-time c =
    let self = c.args.self.now in
    let new = c.replace.new.self in
    let elder = c.in_ok-replace.ensures.elders in
    replaced_elapses self.log new.log elder.0 self.elders.items new.elders.items self.past.items new.past.items elder.1 elder.2 elder.3 (ap (λ (v : Vec Image Global). v.items) c.replace.ensures.same.1)
