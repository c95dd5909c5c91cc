use Rattle.std.proofs.Common.{arith, rules}
use Rattle.std.proofs.lemmas.List.Sorted.{IsPartitionPoint-from_clause}
use Rattle.zq_ranked.proofs.Ranks.{count_at_point}
use Rattle.zq_ranked.proofs.Sorted.{sorted_cut}
use Rattle.zq_ranked.specs.Key.{pair_of_key}
use Rattle.zq_ranked.specs.Order.{goes_before}
use Rattle.zq_ranked.proofs.block.rank_in.Goals as goal

pub returns : goal.returns
returns c =
    let t = pair_of_key c.args.key.now in
    let cut = sorted_cut c.args.block.now c.requires t in
    let point = IsPartitionPoint-from_clause (goes_before t) c.args.block.now c.partition_point.result c.partition_point.ensures.partitioned cut (λ a r f k. (search rules)) in
    count_at_point (goes_before t) c.args.block.now c.partition_point.result (grind arith) point
