use Rattle.std.specs.Prelude.{option_map, take}
use Rattle.zq_dots.specs.Rule.{rule_of}
use Rattle.zq_queue.specs.Few.{pairs_by}
use Rattle.zq_queue.specs.Least.{IsLeastOf}
use Rattle.zq_queue.specs.Lent.{lent_pair}
use Rattle.zq_queue.proofs.scanned.top.Given as goal

abbrev pub invariant-loop-member : goal.invariant-loop-member
invariant-loop-member l = IsLeastOf (pairs_by (rule_of l.rule) (take l.member-index l.list)) (option_map lent_pair l.least)
