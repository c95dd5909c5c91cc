use Rattle.std.proofs.Common.{Global, Vec, ℕ}
use Rattle.zq_keeper.proofs.Written.{short_next, written_next}
use Rattle.zq_keeper.proofs.rounds.write_all.Goals as goal

pub loop-batch-preserved : goal.loop-batch-preserved
loop-batch-preserved c = record {
  written = written_next (λ (b : Vec ℕ Global). b.items) c.args.batches.now
      c.loop-batch.batch-index c.batch-item.result c.loop-batch.written.items
      c.push.new.self.items c.in_ok-bytes.bytes c.loop-batch-test.true c.batch-item.is
      c.in_ok-push.ensures.items c.loop-batch.invariant.written c.in_ok-bytes.ensures.written;
  short = short_next c.args.batches.now c.loop-batch.batch-index c.batch-item.result
      c.loop-batch-test.true c.batch-item.is c.loop-batch.invariant.short
      c.in_ok-bytes.ensures.short;
}
