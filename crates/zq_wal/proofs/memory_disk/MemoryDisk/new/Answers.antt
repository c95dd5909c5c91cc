use Rattle.zq_wal.proofs.Images.{fresh_bytes, fresh_only}
use Rattle.zq_wal.proofs.memory_disk.MemoryDisk.new.Goals as goal

pub returns-clause-log : goal.returns-clause-log
returns-clause-log c = fresh_bytes c.of.result c.args.bytes.items c.of.ensures.firm c.of.ensures.loose

pub returns-clause-durable : goal.returns-clause-durable
returns-clause-durable c = fresh_only c.of.result c.new.result.items c.args.bytes.items c.of.ensures.firm c.of.ensures.loose c.new.ensures.items
