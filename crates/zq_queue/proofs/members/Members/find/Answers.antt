use Rattle.std.proofs.Common.{ap, subst, sym, ◌∙◌}
use Rattle.std.specs.FinMap.{contains_key, get}
use Rattle.std.specs.Prelude.{is_some}
use Rattle.zq_dots.specs.Rule.{rule_of}
use Rattle.zq_posheap.proofs.Lists.{is_some-map}
use Rattle.zq_queue.proofs.Eithers.{many_entries, stands}
use Rattle.zq_queue.proofs.Helds.{get-entries_of}
use Rattle.zq_queue.specs.Entries.{NoneIsBare}
use Rattle.zq_queue.proofs.members.Members.find.Goals as goal

pub returns-in_err-find-in-Many-clause-there : goal.returns-in_err-find-in-Many-clause-there
returns-in_err-find-in-Many-clause-there c =
    let m = c.args.member.now in
    let x = c.deref-in-Many.result.now in
    ap is_some c.from_residual-in_err-find-in-Many.ensures ∙ c.in_err-find-in-Many.ensures.there
    ∙ sym (ap is_some (get-entries_of x.held m) ∙ is_some-map (λ p. p.1) (get x.held m))
    ∙ ap (λ e. contains_key e m) (many_entries (rule_of c.self.inside.rule) c.self.inside.form c.in-Many.many x c.in-Many.is c.deref-in-Many.ensures c.self.invariant)
    ∙ ap (λ k. contains_key k.entries m) c.self.view_is

pub returns-in_err-find-in-Many-clause-kept : goal.returns-in_err-find-in-Many-clause-kept
returns-in_err-find-in-Many-clause-kept c = subst (λ k. NoneIsBare k.entries) c.self.view_is (stands (rule_of c.self.inside.rule) c.self.inside.form c.self.invariant)

pub returns-in_ok-find-in-Many-clause-there : goal.returns-in_ok-find-in-Many-clause-there
returns-in_ok-find-in-Many-clause-there c =
    let m = c.args.member.now in
    let x = c.deref-in-Many.result.now in
    c.in_ok-find-in-Many.ensures.there
    ∙ sym (ap is_some (get-entries_of x.held m) ∙ is_some-map (λ p. p.1) (get x.held m))
    ∙ ap (λ e. contains_key e m) (many_entries (rule_of c.self.inside.rule) c.self.inside.form c.in-Many.many x c.in-Many.is c.deref-in-Many.ensures c.self.invariant)
    ∙ ap (λ k. contains_key k.entries m) c.self.view_is

pub returns-in_ok-find-in-Many-clause-kept : goal.returns-in_ok-find-in-Many-clause-kept
returns-in_ok-find-in-Many-clause-kept c = subst (λ k. NoneIsBare k.entries) c.self.view_is (stands (rule_of c.self.inside.rule) c.self.inside.form c.self.invariant)
