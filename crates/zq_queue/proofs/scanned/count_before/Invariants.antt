use Rattle.std.specs.Ordering.{is_lt}
use Rattle.std.specs.Prelude.{count_by, take, ◌≡◌}
use Rattle.zq_dots.specs.Rule.{rule_of}
use Rattle.zq_model.specs.Meaning.{scored_cmp}
use Rattle.zq_queue.specs.Few.{pairs_by}
use Rattle.zq_queue.proofs.scanned.count_before.Given as goal

abbrev pub invariant-loop-other : goal.invariant-loop-other
invariant-loop-other l = l.count ≡ count_by (λ pair. is_lt (scored_cmp pair (l.fn.score, l.fn.member))) (pairs_by (rule_of l.rule) (take l.other-index l.list))
