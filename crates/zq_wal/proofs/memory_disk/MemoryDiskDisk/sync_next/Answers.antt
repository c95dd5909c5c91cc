use Rattle.std.proofs.Common.{◌∙◌}
use Rattle.zq_wal.specs.Image.{bytes_of}
use Rattle.zq_wal.proofs.Images.{firm_left}
use Rattle.zq_wal.proofs.memory_disk.MemoryDiskDisk.sync_next.Goals as goal

pub returns-clause-durable : goal.returns-clause-durable
returns-clause-durable c = λ f left. firm_left c.of.result (bytes_of c.args.self.now.next) f (c.of.ensures.firm ∙ c.in_ok-whole.ensures) c.of.ensures.loose left
