use Rattle.zq_shard.proofs.KeysInOrder.{keys_found, keys_rise}
use Rattle.zq_shard.proofs.lending.keys_in_order.Goals as goal

pub returns-clause-rising : goal.returns-clause-rising
returns-clause-rising c = keys_rise c.in_ok-keys.keys.items c.sort_unstable.new.self.items c.sort_unstable.ensures.permutation c.in_ok-keys.ensures.distinct c.sort_unstable.ensures.sorted

pub returns-clause-all : goal.returns-clause-all
returns-clause-all c = keys_found c.in_ok-keys.keys.items c.sort_unstable.new.self.items c.sort_unstable.ensures.permutation c.args.queues.now.entries c.in_ok-keys.ensures.keys
