use Rattle.std.proofs.Common.{ap, arith, drop, length, map, rules, sym, Some, ◌*◌, ◌+◌, ◌<◌, ◌∙◌, ◌≡◌}
use Rattle.std.proofs.lemmas.Int.{to_z-of_z}
use Rattle.std.proofs.lemmas.List.{drop_all}
use Rattle.std.specs.Int.{w128}
use Rattle.std.specs.Prelude.{is_none}
use mir.Val.{SFits, of_z, to_z}
use Rattle.zq_dots.specs.Rule.{rule_of}
use Rattle.zq_model.specs.Operation.{MOST}
use Rattle.zq_model.specs.Score.{preferred_if, score_of, value_of}
use Rattle.zq_model.specs.Sets.{SITES}
use Rattle.zq_entry.specs.Sums.{MOST_SUM}
use Rattle.zq_entry.proofs.EntryLemmas.{best, combined, combined-none, none-score_of, score-dense, within-preferred}
use Rattle.zq_entry.proofs.EntryWalks.{best-more}
use Rattle.zq_entry.proofs.entry.Entry.score.Goals as goal

-- the new best
new_best : (c : goal.After-preferred) → to_z w128 (of_z w128 c.preferred.result) ≡ preferred_if (rule_of c.args.rule) c.value_at.result c.loop-place.best
new_best c =
    let fits : SFits w128 c.preferred.result = search rules in
    let value : SFits w128 c.value_at.result = search rules in
    to_z-of_z w128 c.preferred.result fits ∙ (c.preferred.ensures ∙ ap (λ x. preferred_if (rule_of c.args.rule) x c.loop-place.best) (to_z-of_z w128 c.value_at.result value))

pub loop-place-preserved : goal.loop-place-preserved
loop-place-preserved c =
    let items = c.self.inside.additions in
    let rule = rule_of c.args.rule in
    let inside : c.loop-place.place < length items = omega arith in
    record {
      value =
          ap (λ x. combined rule (Some x) (best rule (map (λ p. value_of p.1) (drop (c.loop-place.place + 1) items)))) (new_best c)
          ∙ (best-more rule c.loop-place.best items c.loop-place.place c.value_at.result inside c.value_at.ensures.value ∙ c.loop-place.invariant.value);
      within = rw (new_best c) (within-preferred rule (MOST + SITES * MOST_SUM) c.value_at.result c.loop-place.best c.value_at.ensures.within c.loop-place.invariant.within);
    }

preferred : (c : goal.After-loop-place) → c.loop-place.best ≡ score_of (rule_of c.args.rule) c.args.self.now
preferred c =
    let items = c.self.inside.additions in
    let rule = rule_of c.args.rule in
    let none = ap (λ xs. combined rule c.loop-place.best (best rule (map (λ p. value_of p.1) xs))) (drop_all c.loop-place.place items (omega arith)) ∙ combined-none rule c.loop-place.best in
    sym none ∙ (c.loop-place.invariant.value ∙ (sym (score-dense rule items c.self.invariant) ∙ ap (score_of rule) c.self.view_is))

pub returns-clause-preferred : goal.returns-clause-preferred
returns-clause-preferred c = preferred c

pub returns-clause-none : goal.returns-clause-none
returns-clause-none c = ap is_none (preferred c) ∙ none-score_of (rule_of c.args.rule) c.args.self.now
