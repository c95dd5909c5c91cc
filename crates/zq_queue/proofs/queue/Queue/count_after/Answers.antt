use Rattle.std.proofs.Common.{ap, arith, sym, ◌∙◌, ◌≡◌}
use Rattle.std.proofs.lemmas.Bool.Decides.{not_from_Decides}
use Rattle.std.proofs.lemmas.Int.{to_z-of_z}
use Rattle.std.specs.Int.{w128}
use Rattle.std.specs.Option.{option_eq}
use Rattle.std.specs.Ordering.{int_eq, is_lt}
use Rattle.std.specs.Prelude.{List, Some, count_by, ℕ, ℤ}
use Rattle.zq_model.specs.Meaning.{Scored, scored_cmp}
use Rattle.zq_queue.proofs.Ranks.{is_score, others_around, pairs_around}
use Rattle.zq_queue.specs.Listed.{listed}
use Rattle.zq_queue.proofs.queue.Queue.count_after.Goals as goal
use Rattle.zq_queue.proofs.queue.Queue.count_after.Goals.{After-eq}

abbrev before : Scored → List Scored → ℕ
before its pairs = count_by (λ pair. is_lt (scored_cmp pair its)) pairs

-- what goes before the pair, and whether it stands, at the score that was handed in
counted : (c : After-eq) → c.count_before.result ≡ before (c.args.score, c.args.member.now) (listed c.args.self.now.rule c.args.self.now.entries)
counted c = c.count_before.ensures ∙ ap (λ y. before (y, c.args.member.now) (listed c.args.self.now.rule c.args.self.now.entries)) (to_z-of_z w128 c.args.score c.ranges.score)

equal : (c : After-eq) → option_eq int_eq c.score.result (Some c.args.score) ≡ c.eq.result
equal c = sym (c.eq.ensures ∙ ap (λ (y : ℤ). option_eq int_eq c.score.result (Some y)) (to_z-of_z w128 c.args.score c.ranges.score))

pub overflow_sub-result : goal.overflow_sub-result
overflow_sub-result c =
    let d = (goal.at.overflow_sub-result c).After-eq in
    let its = (is_score c.score.result c.args.score).0 (equal d ∙ c.if-eq.true) in
    let around = others_around c.args.self.now.rule c.args.self.now.entries c.args.score c.args.member.now (sym c.score.ensures ∙ its) in
    omega (arith, c.len.ensures.queue, counted d, around)

pub returns-then-eq : goal.returns-then-eq
returns-then-eq c =
    let d = (goal.at.returns-then-eq c).After-eq in
    let its = (is_score c.score.result c.args.score).0 (equal d ∙ c.if-eq.true) in
    let around = others_around c.args.self.now.rule c.args.self.now.entries c.args.score c.args.member.now (sym c.score.ensures ∙ its) in
    omega (arith, c.len.ensures.queue, counted d, around)

pub returns-else-eq : goal.returns-else-eq
returns-else-eq c =
    let d = (goal.at.returns-else-eq c).After-eq in
    let other = not_from_Decides _ (is_score c.score.result c.args.score) (equal d ∙ c.if-eq.false) in
    let around = pairs_around c.args.self.now.rule c.args.self.now.entries c.args.score c.args.member.now (λ is. other (c.score.ensures ∙ is)) in
    omega (arith, c.len.ensures.queue, counted d, around)
