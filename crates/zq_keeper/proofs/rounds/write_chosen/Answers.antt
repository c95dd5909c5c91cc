use Rattle.std.proofs.Common.{Global, Vec, ℕ}
use Rattle.zq_keeper.proofs.Written.{chosen_short, chosen_written}
use Rattle.zq_keeper.proofs.rounds.write_chosen.Goals as goal

pub loop-batch-preserved : goal.loop-batch-preserved
loop-batch-preserved c = record {
  written = chosen_written (λ (b : Vec ℕ Global). b.items) c.args.parts.now c.args.batches.now
      c.loop-batch.batch-index c.batch-item.result c.loop-batch.written.items
      c.write_more.new.written.items c.loop-batch-test.true c.batch-item.is
      c.in_ok-write_more.ensures.written c.loop-batch.invariant.written;
  short = chosen_short c.args.parts.now c.args.batches.now c.loop-batch.batch-index
      c.batch-item.result c.loop-batch-test.true c.batch-item.is c.loop-batch.invariant.short
      c.in_ok-write_more.ensures.short;
}
