use Rattle.std.proofs.Common.{ap, ◌∙◌}
use Rattle.std.proofs.lemmas.Int.{to_z-of_z}
use Rattle.std.specs.Int.{w128}
use Rattle.std.specs.Ordering.{is_lt}
use Rattle.std.specs.Prelude.{List, count_by, ℕ}
use Rattle.zq_dots.specs.Rule.{rule_of}
use Rattle.zq_model.specs.Meaning.{Scored, scored_cmp}
use Rattle.zq_queue.proofs.Eithers.{few_counts, many_order}
use Rattle.zq_queue.specs.Form.{entries_in}
use Rattle.zq_queue.specs.Listed.{listed}
use Rattle.zq_queue.specs.Few.{pairs_by}
use Rattle.zq_queue.proofs.members.Members.count_before.Goals as goal

abbrev before : Scored → List Scored → ℕ
before its pairs = count_by (λ pair. is_lt (scored_cmp pair its)) pairs

pub returns-in-Few : goal.returns-in-Few
returns-in-Few c =
    let m = c.args.member.now in
    c.count_before.ensures
    ∙ ap (λ x. before (x, m) (pairs_by (rule_of c.self.inside.rule) c.deref.result.now)) (to_z-of_z w128 c.args.score c.ranges.score)
    ∙ few_counts (rule_of c.self.inside.rule) c.self.inside.form c.in-Few.list c.deref.result.now c.in-Few.is c.deref.ensures.value c.self.invariant (λ pair. is_lt (scored_cmp pair (c.args.score, m)))
    ∙ ap (λ k. before (c.args.score, m) (listed k.rule k.entries)) c.self.view_is

pub returns-in-Many : goal.returns-in-Many
returns-in-Many c =
    let m = c.args.member.now in
    let queue = listed (rule_of c.self.inside.rule) (entries_in c.self.inside.form) in
    c.count_before-in-Many.ensures queue (many_order (rule_of c.self.inside.rule) c.self.inside.form c.in-Many.many c.deref-in-Many.result.now c.in-Many.is c.deref-in-Many.ensures c.self.invariant)
    ∙ ap (λ x. before (x, m) queue) (to_z-of_z w128 c.args.score c.ranges.score)
    ∙ ap (λ k. before (c.args.score, m) (listed k.rule k.entries)) c.self.view_is
