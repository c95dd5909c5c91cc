use Rattle.std.proofs.Common.{◌<◌, length, rules}
use Rattle.zq_wal.proofs.Images.{elder_left}
use Rattle.zq_wal.proofs.memory_disk.MemoryDisk.crash.Goals as goal

pub returns-in-Some : goal.returns-in-Some
returns-in-Some c =
    let self = c.args.self.now in
    let within : c.in-Some.number < length self.elders.items = search rules in
    elder_left self.log c.index.result.now c.index.result.now self.elders.items c.in-Some.number c.torn.result within c.index.ensures c.torn.ensures
