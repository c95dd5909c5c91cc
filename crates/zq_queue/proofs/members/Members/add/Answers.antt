use Rattle.std.proofs.Common.{ap, arith, refl, rules, subst, sym, ◌∙◌, ◌≡◌}
use Rattle.std.specs.FinMap.{get}
use Rattle.std.specs.Prelude.{is_none, length, ◌<◌}
use Rattle.std.specs.Vec.{vec_len}
use Rattle.zq_dots.specs.Rule.{rule_of}
use Rattle.zq_queue.proofs.Changing.{handed_on, set_bare, set_some}
use Rattle.zq_queue.proofs.Eithers.{few_added, few_either, few_entries, many_added, many_added_scored, many_added_set, many_either, many_entries, many_scored}
use Rattle.zq_queue.proofs.Helds.{absent_held, removed_absent}
use Rattle.zq_queue.specs.Entries.{set_entry}
use Rattle.zq_queue.specs.Form.{entries_in}
use Rattle.zq_queue.specs.Queued.{AreScored, entries_of}
use Rattle.zq_queue.proofs.members.Members.add.Goals as goal

pub returns-in_default-clause-added : goal.returns-in_default-clause-added
returns-in_default-clause-added c =
    let all = c.args.self.now.entries in
    let m = c.args.member.now in
    sym (set_bare all m c.args.entry (sym c.score.ensures.none ∙ ap is_none c.in_default.is) ∙ removed_absent all m c.requires)

pub invariant_of-self : goal.invariant_of-self
invariant_of-self c =
    let list = c.in-Few.list in
    let m = c.args.member.now in
    let count : vec_len list ≡ length list.items = search rules in
    let room : length list.items < 32 = omega (arith, c.if-len-lt-MOST_FEW.true, c.len.ensures, count) in
    few_either (rule_of c.self.inside.rule) c.self.inside.form list list.items c.in-Few.is refl c.self.invariant c.push.result m c.args.entry c.push.new.list.items
    (ap (λ k. get k.entries m) c.self.view_is ∙ c.requires) (sym c.in-Some.ensures.none) room c.push.ensures.pushed c.push.ensures.refused

pub returns-then-len-lt-MOST_FEW-clause-added : goal.returns-then-len-lt-MOST_FEW-clause-added
returns-then-len-lt-MOST_FEW-clause-added c =
    let list = c.in-Few.list in
    let m = c.args.member.now in
    let count : vec_len list ≡ length list.items = search rules in
    let room : length list.items < 32 = omega (arith, c.if-len-lt-MOST_FEW.true, c.len.ensures, count) in
    few_added (rule_of c.self.inside.rule) c.self.inside.form list list.items c.in-Few.is refl c.self.invariant c.push.result m c.args.entry c.push.new.list.items
    (ap (λ k. get k.entries m) c.self.view_is ∙ c.requires) (sym c.in-Some.ensures.none) room c.push.ensures.pushed
    (set_entry c.args.self.now.entries m c.args.entry)
    (sym (set_some (entries_in c.self.inside.form) m c.args.entry (sym c.in-Some.ensures.none)) ∙ ap (λ k. set_entry k.entries m c.args.entry) c.self.view_is)

pub insert-requires : goal.insert-requires
insert-requires c =
    let m = c.args.member.now in
    let x = c.deref_mut.result.now in
    let list = c.in-Few.list in
    absent_held x.held m (ap (λ y. get (entries_of y.held) m) c.deref_mut.ensures.value ∙ ap (λ e. get e m) c.in_ok-many-in-Few.ensures.entries
    ∙ ap (λ e. get e m) (few_entries (rule_of c.self.inside.rule) c.self.inside.form list c.deref.result.now c.in-Few.is c.deref.ensures.value c.self.invariant)
    ∙ ap (λ k. get k.entries m) c.self.view_is ∙ c.requires)

pub invariant_of-self-in-Few : goal.invariant_of-self-in-Few
invariant_of-self-in-Few c =
    let rule = rule_of c.self.inside.rule in
    let x = c.deref_mut.result.now in
    let scored : AreScored rule x.held = subst (λ y. AreScored rule y.held) (sym c.deref_mut.ensures.value) c.in_ok-many-in-Few.ensures.scored in
    many_added_scored rule x.held scored c.args.member.now c.args.entry c.in-Some.score _ (handed_on c.in-Some.score c.in-Some.ensures.within) (sym c.in-Some.ensures.preferred)
    c.insert.new.self.held c.in_ok-insert-in-Few.ensures.done

pub insert-requires-in-Many : goal.insert-requires-in-Many
insert-requires-in-Many c =
    let m = c.args.member.now in
    let x = c.deref_mut-in-Many.result.now in
    absent_held x.held m (ap (λ e. get e m) (many_entries (rule_of c.self.inside.rule) c.self.inside.form c.in-Many.many x c.in-Many.is c.deref_mut-in-Many.ensures.value c.self.invariant)
    ∙ ap (λ k. get k.entries m) c.self.view_is ∙ c.requires)

pub invariant_of-self-in-Many : goal.invariant_of-self-in-Many
invariant_of-self-in-Many c =
    let rule = rule_of c.self.inside.rule in
    let x = c.deref_mut-in-Many.result.now in
    many_either rule x.held (many_scored rule c.self.inside.form c.in-Many.many x c.in-Many.is c.deref_mut-in-Many.ensures.value c.self.invariant) c.args.member.now c.args.entry c.in-Some.score _
    (handed_on c.in-Some.score c.in-Some.ensures.within) (sym c.in-Some.ensures.preferred) c.insert-in-Many.new.self.held c.insert-in-Many.result c.insert-in-Many.ensures.done c.insert-in-Many.ensures.unchanged

pub returns-in_ok-insert-in-Few-clause-added : goal.returns-in_ok-insert-in-Few-clause-added
returns-in_ok-insert-in-Few-clause-added c =
    let rule = rule_of c.self.inside.rule in
    let m = c.args.member.now in
    let x = c.deref_mut.result.now in
    let scored : AreScored rule x.held = subst (λ y. AreScored rule y.held) (sym c.deref_mut.ensures.value) c.in_ok-many-in-Few.ensures.scored in
    many_added_set rule x.held scored m c.args.entry c.in-Some.score _ (handed_on c.in-Some.score c.in-Some.ensures.within) (sym c.in-Some.ensures.preferred)
    c.insert.new.self.held c.in_ok-insert-in-Few.ensures.done
    ∙ ap (λ e. set_entry e m c.args.entry) (ap (λ y. entries_of y.held) c.deref_mut.ensures.value ∙ c.in_ok-many-in-Few.ensures.entries
    ∙ few_entries rule c.self.inside.form c.in-Few.list c.deref.result.now c.in-Few.is c.deref.ensures.value c.self.invariant ∙ ap (λ k. k.entries) c.self.view_is)

pub returns-in-Many-clause-added : goal.returns-in-Many-clause-added
returns-in-Many-clause-added c =
    let rule = rule_of c.self.inside.rule in
    let m = c.args.member.now in
    let x = c.deref_mut-in-Many.result.now in
    many_added rule x.held (many_scored rule c.self.inside.form c.in-Many.many x c.in-Many.is c.deref_mut-in-Many.ensures.value c.self.invariant) m c.args.entry c.in-Some.score _
    (handed_on c.in-Some.score c.in-Some.ensures.within) (sym c.in-Some.ensures.preferred) c.insert-in-Many.new.self.held c.insert-in-Many.result c.insert-in-Many.ensures.done
    (set_entry c.args.self.now.entries m c.args.entry)
    (ap (λ e. set_entry e m c.args.entry) (many_entries rule c.self.inside.form c.in-Many.many x c.in-Many.is c.deref_mut-in-Many.ensures.value c.self.invariant)
    ∙ ap (λ k. set_entry k.entries m c.args.entry) c.self.view_is)
