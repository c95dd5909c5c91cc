use Rattle.std.proofs.Common.{ap, refl, sym, ◌∙◌, ◌≡◌}
use Rattle.std.proofs.lemmas.Int.{to_z-of_z}
use Rattle.std.specs.FinMap.{get}
use Rattle.std.specs.Int.{w128}
use Rattle.std.specs.Prelude.{FitsSigned, None, Some, length, option_map, slice_get, ◌<◌, ℤ}
use Rattle.zq_dots.specs.Rule.{rule_of}
use Rattle.zq_model.specs.Image.{Entry}
use Rattle.zq_model.specs.Score.{score_of}
use Rattle.zq_posheap.proofs.Entries.{none_of}
use Rattle.zq_queue.proofs.Eithers.{few_entries, few_scored, many_score, no_score_in, stands}
use Rattle.zq_queue.specs.Entries.{NoneIsBare, entry_in}
use Rattle.zq_queue.specs.Few.{entries_by, names_in}
use Rattle.std.proofs.Common.{subst}
use Rattle.zq_queue.proofs.members.Members.score.Goals as goal

pub returns-in_err-find-in-Few-clause-score : goal.returns-in_err-find-in-Few-clause-score
returns-in_err-find-in-Few-clause-score c =
    let m = c.args.member.now in
    let xs = c.deref.result.now in
    let rule = rule_of c.self.inside.rule in
    let none = none_of (get (entries_by xs) m) c.in_err-find-in-Few.ensures.there in
    c.from_residual.ensures
    ∙ no_score_in rule c.self.inside.form m (ap (λ e. get e m) (sym (few_entries rule c.self.inside.form c.in-Few.list xs c.in-Few.is c.deref.ensures.value c.self.invariant)) ∙ none)
    ∙ ap (λ k. score_of k.rule (entry_in k.entries m)) c.self.view_is

pub returns-in_err-get-in-Many-clause-score : goal.returns-in_err-get-in-Many-clause-score
returns-in_err-get-in-Many-clause-score c =
    let m = c.args.member.now in
    let x = c.deref-in-Many.result.now in
    let none : get x.held m ≡ None = sym c.get.ensures.got ∙ ap (option_map (λ e. (e.0, e.1.now))) c.in_err-get-in-Many.was in
    c.from_residual-in_err-get-in-Many.ensures ∙ sym (ap (option_map (λ (p : ℤ × Entry). p.0)) none)
    ∙ many_score (rule_of c.self.inside.rule) c.self.inside.form c.in-Many.many x c.in-Many.is c.deref-in-Many.ensures c.self.invariant m
    ∙ ap (λ k. score_of k.rule (entry_in k.entries m)) c.self.view_is

pub returns-in_err-get-in-Many-clause-kept : goal.returns-in_err-get-in-Many-clause-kept
returns-in_err-get-in-Many-clause-kept c = subst (λ k. NoneIsBare k.entries) c.self.view_is (stands (rule_of c.self.inside.rule) c.self.inside.form c.self.invariant)

pub returns-in_ok-find-in-Few-clause-score : goal.returns-in_ok-find-in-Few-clause-score
returns-in_ok-find-in-Few-clause-score c =
    let m = c.args.member.now in
    let xs = c.deref.result.now in
    let list = c.in-Few.list in
    let i = c.in_ok-find-in-Few.field-0 in
    let within : i < length list.items = subst (λ ys. i < length ys) c.deref.ensures.value c.in_ok-find-in-Few.ensures.within in
    c.score.ensures.preferred
    ∙ few_scored (rule_of c.self.inside.rule) c.self.inside.form list list.items c.in-Few.is refl c.self.invariant i c.index.result.now m within c.index.ensures
    (subst (λ ys. slice_get (names_in ys) i ≡ Some m) c.deref.ensures.value c.in_ok-find-in-Few.ensures.place)
    ∙ ap (λ k. score_of k.rule (entry_in k.entries m)) c.self.view_is

pub returns-in_ok-get-in-Many-clause-score : goal.returns-in_ok-get-in-Many-clause-score
returns-in_ok-get-in-Many-clause-score c =
    let m = c.args.member.now in
    let x = c.deref-in-Many.result.now in
    let e = c.in_ok-get-in-Many.field-0 in
    let got : get x.held m ≡ Some (e.0, e.1.now) = sym c.get.ensures.got ∙ ap (option_map (λ e. (e.0, e.1.now))) c.in_ok-get-in-Many.was in
    let fits : FitsSigned w128 e.0 = c.get.ensures.in_range m _ got in
    ap (λ (y : ℤ). Some y) (to_z-of_z w128 e.0 fits) ∙ sym (ap (option_map (λ (p : ℤ × Entry). p.0)) got)
    ∙ many_score (rule_of c.self.inside.rule) c.self.inside.form c.in-Many.many x c.in-Many.is c.deref-in-Many.ensures c.self.invariant m
    ∙ ap (λ k. score_of k.rule (entry_in k.entries m)) c.self.view_is

pub returns-in_ok-get-in-Many-clause-kept : goal.returns-in_ok-get-in-Many-clause-kept
returns-in_ok-get-in-Many-clause-kept c = subst (λ k. NoneIsBare k.entries) c.self.view_is (stands (rule_of c.self.inside.rule) c.self.inside.form c.self.invariant)
