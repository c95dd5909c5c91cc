use Rattle.std.proofs.Common.{map, ◌++◌, ◌≡◌}
use Rattle.zq_shard.specs.Listed.{lent_key}
use Rattle.zq_shard.proofs.lending.keys_in_any_order.Given as goal

abbrev pub invariant-loop-key : goal.invariant-loop-key
invariant-loop-key l = map lent_key l.keys.items ++ map (λ e. e.0) l.key-iterator ≡ map (λ e. e.0) l.queues.entries
