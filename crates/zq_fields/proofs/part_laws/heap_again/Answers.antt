use Rattle.zq_fields.proofs.PartsAgain.{heap_read}
use Rattle.zq_fields.proofs.part_laws.heap_again.Goals as goal

pub returns : goal.returns
returns c = heap_read
