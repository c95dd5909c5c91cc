use Rattle.zq_entries.proofs.Alike.{some_written}
use Rattle.zq_entries.proofs.batch.Batch.write.Goals as goal

pub unwrap-requires : goal.unwrap-requires
unwrap-requires c =
    some_written _ c.in_ok-written.written c.self.inside.ops.items c.deref-2.result.now
    c.deref-2.ensures.value c.in_ok-written.ensures c.self.invariant.0
