use Rattle.zq_dots.specs.Rule.{rule_of}
use Rattle.zq_queue.proofs.Scans.{sorted_few}
use Rattle.zq_queue.proofs.scanned.in_order.Goals as goal

pub returns : goal.returns
returns c = sorted_few (rule_of c.args.rule) c.args.list.now c.requires.few c.in_ok-pairs.pairs.items c.sort_unstable.new.self.items c.in_ok-pairs.ensures
    c.sort_unstable.ensures.permutation c.sort_unstable.ensures.sorted
