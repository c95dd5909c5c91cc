use Rattle.std.proofs.Common.{map, take, ◌≡◌}
use Rattle.zq_shard.specs.Listed.{lent_row}
use Rattle.zq_stage.specs.Rows.{with_rows}
use Rattle.zq_stage.proofs.replacing.replace.Given as goal

abbrev pub invariant-loop-row : goal.invariant-loop-row
invariant-loop-row l = record {
  heap : l.shard.heap ≡ l.fn.shard.heap;
  heaps : l.shard.heaps ≡ l.fn.shard.heaps;
  rule : l.shard.rule ≡ l.fn.shard.rule;
  vector : l.shard.image.vector ≡ l.fn.shard.image.vector;
  image : l.shard.image ≡ with_rows (map lent_row (take l.row-index l.rows)) l.fn.shard.image;
}
