use Rattle.zq_entries.proofs.Alike.{none_written}
use Rattle.zq_entries.proofs.batch.Batch.new.Goals as goal

pub returns-in-None : goal.returns-in-None
returns-in-None c =
    none_written _ c.in_ok-bytes.field-0 c.args.ops.items c.deref.result.now
    c.deref.ensures.value c.in_ok-bytes.ensures c.in-None.is
