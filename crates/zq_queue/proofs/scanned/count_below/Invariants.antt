use Rattle.std.specs.Ordering.{int_cmp, is_le, is_lt}
use Rattle.std.specs.Prelude.{count_by, if◌then◌else◌, take, ◌≡◌}
use Rattle.zq_dots.specs.Rule.{rule_of}
use Rattle.zq_queue.specs.Few.{pairs_by}
use Rattle.zq_queue.proofs.scanned.count_below.Given as goal

abbrev pub invariant-loop-other : goal.invariant-loop-other
invariant-loop-other l = l.count ≡ count_by (λ pair. if l.fn.or_equal then is_le (int_cmp pair.0 l.fn.score) else is_lt (int_cmp pair.0 l.fn.score))
    (pairs_by (rule_of l.rule) (take l.other-index l.list))
