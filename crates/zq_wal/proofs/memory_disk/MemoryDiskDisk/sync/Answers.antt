use Rattle.std.proofs.Common.{◌∙◌}
use Rattle.zq_wal.proofs.Images.{broken_elapses, synced_before, synced_elapses, synced_now}
use Rattle.zq_wal.proofs.memory_disk.MemoryDiskDisk.sync.Goals as goal

pub returns-in_err-append-clause-time : goal.returns-in_err-append-clause-time
returns-in_err-append-clause-time c =
    let self = c.args.self.now in
    broken_elapses self.log c.in_ok-old.old self.elders.items c.append.new.other.items self.past.items c.append.new.self.items c.in_ok-old.ensures.firm c.in_ok-old.ensures.loose
    c.in_err-append.ensures.other_items (c.in_err-append.ensures.items ∙ c.in_ok-push.ensures.items)

pub returns-clause-durable : goal.returns-clause-durable
returns-clause-durable c = synced_now c.args.self.now.log c.of.result c.append.new.other.items (c.of.ensures.firm ∙ c.in_ok-whole.ensures) c.of.ensures.loose c.in_ok-append.ensures.other_items

pub returns-clause-crash : goal.returns-clause-crash
returns-clause-crash c =
    let self = c.args.self.now in
    synced_before self.log c.of.result self.elders.items c.append.new.other.items (c.of.ensures.firm ∙ c.in_ok-whole.ensures) c.of.ensures.loose c.in_ok-append.ensures.other_items

pub returns-clause-time : goal.returns-clause-time
returns-clause-time c =
    let self = c.args.self.now in
    synced_elapses self.log c.of.result c.in_ok-old.old self.elders.items c.append.new.other.items self.past.items c.push.new.self.items c.append.new.self.items c.in_ok-old.ensures.firm c.in_ok-old.ensures.loose
    c.in_ok-push.ensures.items c.in_ok-append.ensures.items
