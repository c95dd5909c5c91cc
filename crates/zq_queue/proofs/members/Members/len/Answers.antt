use Rattle.std.proofs.Common.{ap, refl, rules, subst, ◌∙◌, ◌≡◌}
use Rattle.std.specs.FinMap.{len}
use Rattle.std.specs.Prelude.{length}
use Rattle.std.specs.Vec.{vec_len}
use Rattle.zq_dots.specs.Rule.{rule_of}
use Rattle.zq_queue.proofs.Eithers.{few_number, many_number, stands}
use Rattle.zq_queue.proofs.Placed.{few_listed, many_listed}
use Rattle.zq_queue.specs.Entries.{NoneIsBare}
use Rattle.zq_queue.specs.Kept.{AreThere}
use Rattle.zq_queue.proofs.members.Members.len.Goals as goal

pub returns-in-Few-clause-number : goal.returns-in-Few-clause-number
returns-in-Few-clause-number c =
    let list = c.in-Few.list in
    let count : vec_len list ≡ length list.items = search rules in
    c.len.ensures ∙ count ∙ few_number (rule_of c.self.inside.rule) c.self.inside.form list list.items c.in-Few.is refl c.self.invariant ∙ ap (λ k. len k.entries) c.self.view_is

pub returns-in-Many-clause-number : goal.returns-in-Many-clause-number
returns-in-Many-clause-number c =
    c.len-in-Many.ensures.number ∙ many_number (rule_of c.self.inside.rule) c.self.inside.form c.in-Many.many c.deref.result.now c.in-Many.is c.deref.ensures c.self.invariant
    ∙ ap (λ k. len k.entries) c.self.view_is

pub returns-in-Many-clause-kept : goal.returns-in-Many-clause-kept
returns-in-Many-clause-kept c = subst (λ k. NoneIsBare k.entries) c.self.view_is (stands (rule_of c.self.inside.rule) c.self.inside.form c.self.invariant)

pub returns-in-Few-clause-listed : goal.returns-in-Few-clause-listed
returns-in-Few-clause-listed c =
    subst AreThere c.self.view_is (few_listed (rule_of c.self.inside.rule) c.self.inside.form c.in-Few.list c.in-Few.is c.self.invariant)

pub returns-in-Many-clause-listed : goal.returns-in-Many-clause-listed
returns-in-Many-clause-listed c =
    subst AreThere c.self.view_is
    (many_listed (rule_of c.self.inside.rule) c.self.inside.form c.in-Many.many c.deref.result.now c.in-Many.is c.deref.ensures c.self.invariant c.len-in-Many.ensures.listed)
