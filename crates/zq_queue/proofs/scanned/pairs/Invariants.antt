use Rattle.std.specs.Prelude.{map, take, ◌≡◌}
use Rattle.zq_dots.specs.Rule.{rule_of}
use Rattle.zq_queue.specs.Few.{pairs_by}
use Rattle.zq_queue.specs.Lent.{lent_pair}
use Rattle.zq_queue.proofs.scanned.pairs.Given as goal

abbrev pub invariant-loop-member : goal.invariant-loop-member
invariant-loop-member l = map lent_pair l.pairs.items ≡ pairs_by (rule_of l.rule) (take l.member-index l.list)
