use Rattle.std.proofs.Common.{refl}
use Rattle.zq_wal.proofs.Images.{append_refused, appended, appended_elapses}
use Rattle.zq_wal.proofs.memory_disk.MemoryDiskDisk.append.Goals as goal

pub returns-in_err-extend_from_slice-clause-crash : goal.returns-in_err-extend_from_slice-clause-crash
returns-in_err-extend_from_slice-clause-crash c =
    let self = c.args.self.now in
    append_refused self.log (record { firm = self.log.firm; loose = c.extend_from_slice.new.self }) self.elders.items c.args.bytes.now c.requires refl c.in_err-extend_from_slice.ensures.items

pub returns-clause-crash : goal.returns-clause-crash
returns-clause-crash c =
    let self = c.args.self.now in
    appended self.log (record { firm = self.log.firm; loose = c.extend_from_slice.new.self }) self.elders.items c.args.bytes.now c.requires refl c.in_ok-extend_from_slice.ensures.items

pub returns-clause-time : goal.returns-clause-time
returns-clause-time c =
    let self = c.args.self.now in
    appended_elapses self.log (record { firm = self.log.firm; loose = c.extend_from_slice.new.self }) self.elders.items self.past.items c.args.bytes.now refl c.in_ok-extend_from_slice.ensures.items
