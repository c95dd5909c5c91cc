use Rattle.std.proofs.Common.{ap, ◌∙◌}
use Rattle.std.proofs.lemmas.Int.{to_z-of_z}
use Rattle.std.specs.Int.{w128}
use Rattle.std.specs.Ordering.{int_cmp, is_le, is_lt}
use Rattle.std.specs.Prelude.{Bool, List, count_by, if◌then◌else◌, ℕ, ℤ}
use Rattle.zq_dots.specs.Rule.{rule_of}
use Rattle.zq_model.specs.Meaning.{Scored}
use Rattle.zq_queue.proofs.Eithers.{few_counts, many_order}
use Rattle.zq_queue.specs.Few.{pairs_by}
use Rattle.zq_queue.specs.Form.{entries_in}
use Rattle.zq_queue.specs.Listed.{listed}
use Rattle.zq_queue.proofs.members.Members.count_below.Goals as goal

abbrev below : Bool → ℤ → List Scored → ℕ
below or_equal score pairs = count_by (λ pair. if or_equal then is_le (int_cmp pair.0 score) else is_lt (int_cmp pair.0 score)) pairs

pub returns-in-Few : goal.returns-in-Few
returns-in-Few c =
    c.count_below.ensures
    ∙ ap (λ x. below c.args.or_equal x (pairs_by (rule_of c.self.inside.rule) c.deref.result.now)) (to_z-of_z w128 c.args.score c.ranges.score)
    ∙ few_counts (rule_of c.self.inside.rule) c.self.inside.form c.in-Few.list c.deref.result.now c.in-Few.is c.deref.ensures.value c.self.invariant
    (λ pair. if c.args.or_equal then is_le (int_cmp pair.0 c.args.score) else is_lt (int_cmp pair.0 c.args.score))
    ∙ ap (λ k. below c.args.or_equal c.args.score (listed k.rule k.entries)) c.self.view_is

pub returns-in-Many : goal.returns-in-Many
returns-in-Many c =
    let queue = listed (rule_of c.self.inside.rule) (entries_in c.self.inside.form) in
    c.count_below-in-Many.ensures queue (many_order (rule_of c.self.inside.rule) c.self.inside.form c.in-Many.many c.deref-in-Many.result.now c.in-Many.is c.deref-in-Many.ensures c.self.invariant)
    ∙ ap (λ x. below c.args.or_equal x queue) (to_z-of_z w128 c.args.score c.ranges.score)
    ∙ ap (λ k. below c.args.or_equal c.args.score (listed k.rule k.entries)) c.self.view_is
