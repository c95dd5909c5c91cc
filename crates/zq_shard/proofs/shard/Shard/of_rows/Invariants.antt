use Rattle.std.proofs.Common.{map, take, ◌≡◌}
use Rattle.zq_dots.specs.Rule.{rule_of}
use Rattle.zq_model.specs.Rows.{image_of_rows}
use Rattle.zq_shard.specs.Listed.{given_row}
use Rattle.zq_shard.proofs.shard.Shard.of_rows.Given as goal

abbrev pub invariant-loop-row : goal.invariant-loop-row
invariant-loop-row l = record {
  heap : l.shard.heap ≡ l.heap;
  heaps : l.shard.heaps ≡ l.heaps;
  rule : l.shard.rule ≡ rule_of l.fn.rule;
  image : l.shard.image ≡ image_of_rows l.vector (map given_row (take l.row-index l.rows));
}
