use Rattle.std.proofs.Common.{ap, arith, refl, rules, subst, sym, ◌∙◌, ◌≡◌, ◌≤◌}
use Rattle.std.specs.FinMap.{get, remove}
use Rattle.std.specs.List.{swap_remove}
use Rattle.std.specs.Prelude.{Some, [], length, slice_get, ◌<◌}
use Rattle.std.specs.Vec.{vec_len}
use Rattle.zq_dots.specs.Rule.{rule_of}
use Rattle.zq_posheap.proofs.Removal.{map-swap_remove}
use Rattle.zq_queue.proofs.Eithers.{few_got, few_removal, many_entries, many_scored}
use Rattle.zq_queue.proofs.Helds.{entries_of-remove, get-entries_of, scored-remove}
use Rattle.zq_queue.proofs.Scans.{as_many_names}
use Rattle.zq_queue.specs.Few.{AreFew, entries_by, names_in}
use Rattle.zq_queue.specs.Form.{entries_in, places_in}
use Rattle.zq_queue.specs.Queued.{AreScored, entries_of}
use Rattle.zq_queue.specs.declared.few.Member.{Member}
use Rattle.zq_queue.proofs.members.Members.remove_at.Goals.{After-swap_remove, in-Long-1, in-Short-1}
use Rattle.zq_queue.proofs.members.Members.remove_at.Goals as goal

within : (c : After-swap_remove) → c.few.result < length c.in-Few.list.items
within c =
    let places : c.args.self.now.places ≡ names_in c.in-Few.list.items = ap (λ k. k.places) (sym c.self.view_is) ∙ ap places_in c.in-Few.is in
    omega (arith, c.few.ensures, c.requires.within.within, ap length places, as_many_names c.in-Few.list.items)

named : (c : After-swap_remove) → slice_get (names_in c.in-Few.list.items) c.few.result ≡ Some c.args.member.now
named c =
    let places : c.args.self.now.places ≡ names_in c.in-Few.list.items = ap (λ k. k.places) (sym c.self.view_is) ∙ ap places_in c.in-Few.is in
    (λ i. slice_get (sym places i) (c.few.ensures i)) ∙ c.requires.place

taken : (c : After-swap_remove) → AreFew c.swap_remove.new.self.items × (entries_by c.swap_remove.new.self.items ≡ remove (entries_in c.self.inside.form) c.args.member.now)
taken c =
    let list = c.in-Few.list in
    let new = c.swap_remove.new.self in
    let before : vec_len list ≡ length list.items = search rules in
    let after : vec_len new ≡ length new.items = search rules in
    let fewer : length new.items ≤ length list.items = omega (arith, before, after, c.swap_remove.ensures.len) in
    few_removal (rule_of c.self.inside.rule) c.self.inside.form list list.items c.in-Few.is refl c.self.invariant c.few.result c.swap_remove.result c.args.member.now new.items
    (within c) c.swap_remove.ensures.value (named c) c.swap_remove.ensures.items fewer

pub invariant_of-self : goal.invariant_of-self
invariant_of-self c = (taken (goal.at.invariant_of-self c).After-swap_remove).0

pub invariant_of-self-in-Few-2 : goal.invariant_of-self-in-Few-2
invariant_of-self-in-Few-2 c = (taken (goal.at.invariant_of-self-in-Few-2 c).After-swap_remove).0

pub invariant_of-self-in-Many : goal.invariant_of-self-in-Many
invariant_of-self-in-Many c =
    let x = c.deref_mut.result.now in
    let rule = rule_of c.self.inside.rule in
    subst (AreScored rule) (sym (c.shrink.ensures.held ∙ ap (λ y. y.held) c.deref_mut-in-Many.ensures.value ∙ c.remove_at-entry.ensures.held))
    (scored-remove rule x.held c.args.member.now (many_scored rule c.self.inside.form c.in-Many.many x c.in-Many.is c.deref_mut.ensures.value c.self.invariant))

pub returns-in-Few-clause-before : goal.returns-in-Few-clause-before
returns-in-Few-clause-before c =
    let d = (goal.at.returns-in-Few-clause-before c).After-swap_remove in
    let list = c.in-Few.list in
    ap (λ k. get k.entries c.args.member.now) (sym c.self.view_is)
    ∙ few_got (rule_of c.self.inside.rule) c.self.inside.form list list.items c.in-Few.is refl c.self.invariant c.few.result c.swap_remove.result c.args.member.now (within d) c.swap_remove.ensures.value (named d)

pub returns-in-Few-clause-rest : goal.returns-in-Few-clause-rest
returns-in-Few-clause-rest c =
    let d = (goal.at.returns-in-Few-clause-rest c).After-swap_remove in
    let rest = (taken d).1 ∙ ap (λ k. remove k.entries c.args.member.now) c.self.view_is in
    elim c.match-swap_remove.branch [
      | in-Long-1 w ↦ ap (λ k. k.entries) w.self-is ∙ rest
      | in-Short-1 w ↦ ap (λ k. k.entries) w.self-is ∙ rest
    ]

pub returns-in-Many-clause-before : goal.returns-in-Many-clause-before
returns-in-Many-clause-before c =
    let m = c.args.member.now in
    let x = c.deref_mut.result.now in
    ap (λ k. get k.entries m) (sym c.self.view_is)
    ∙ ap (λ e. get e m) (sym (many_entries (rule_of c.self.inside.rule) c.self.inside.form c.in-Many.many x c.in-Many.is c.deref_mut.ensures.value c.self.invariant))
    ∙ get-entries_of x.held m ∙ c.remove_at-entry.ensures.given

pub returns-in-Many-clause-rest : goal.returns-in-Many-clause-rest
returns-in-Many-clause-rest c =
    let m = c.args.member.now in
    let x = c.deref_mut.result.now in
    c.settle.ensures.entries ∙ ap entries_of (c.shrink.ensures.held ∙ ap (λ y. y.held) c.deref_mut-in-Many.ensures.value ∙ c.remove_at-entry.ensures.held) ∙ entries_of-remove x.held m
    ∙ ap (λ e. remove e m) (many_entries (rule_of c.self.inside.rule) c.self.inside.form c.in-Many.many x c.in-Many.is c.deref_mut.ensures.value c.self.invariant)
    ∙ ap (λ k. remove k.entries m) c.self.view_is

pub returns-in-Few-clause-places : goal.returns-in-Few-clause-places
returns-in-Few-clause-places c =
    let d = (goal.at.returns-in-Few-clause-places c).After-swap_remove in
    let list = c.in-Few.list.items in
    let places : c.args.self.now.places ≡ names_in list = ap (λ k. k.places) (sym c.self.view_is) ∙ ap places_in c.in-Few.is in
    let rest = ap names_in c.swap_remove.ensures.items ∙ map-swap_remove (λ (m : Member). m.name) list c.few.result c.swap_remove.result [] (within d)
    ∙ (λ k. swap_remove (sym places k) (c.few.ensures k) []) in
    elim c.match-swap_remove.branch [
      | in-Long-1 w ↦ ap (λ k. k.places) w.self-is ∙ rest
      | in-Short-1 w ↦ ap (λ k. k.places) w.self-is ∙ rest
    ]
