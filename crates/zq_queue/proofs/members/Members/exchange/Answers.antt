use Rattle.std.proofs.Common.{ap, arith, refl, subst, sym, ◌∙◌, ◌≡◌}
use Rattle.std.proofs.lemmas.List.{length-set}
use Rattle.std.specs.FinMap.{get}
use Rattle.std.specs.Prelude.{Some, length, slice_get, slice_set, ◌<◌}
use Rattle.zq_dots.specs.Rule.{rule_of}
use Rattle.zq_model.specs.Image.{Entry}
use Rattle.zq_queue.proofs.Changing.{handed_on, set_some}
use Rattle.zq_queue.proofs.Eithers.{few_exchange, few_got, many_added_scored, many_added_set, many_entries, many_scored}
use Rattle.zq_queue.proofs.Helds.{get-entries_of}
use Rattle.zq_queue.proofs.Placed.{names_set, not_bare}
use Rattle.zq_queue.proofs.Scans.{as_many_names}
use Rattle.zq_queue.specs.Entries.{set_entry}
use Rattle.zq_queue.specs.Few.{names_in}
use Rattle.zq_queue.specs.Form.{entries_in, places_in}
use Rattle.zq_queue.specs.contracts.members.Members.{the_invariant}
use Rattle.zq_queue.proofs.members.Members.exchange.Goals.{in-Few, in-Many}
use Rattle.zq_queue.proofs.members.Members.exchange.Goals as goal

pub invariant_of-self : goal.invariant_of-self
invariant_of-self c = elim c.match-self.branch [
  | in-Few w ↦
      let list = w.in-Few.list in
      let i = w.few.result in
      let places : c.args.self.now.places ≡ names_in list.items = ap (λ k. k.places) (sym c.self.view_is) ∙ ap places_in w.in-Few.is in
      let within : i < length list.items = omega (arith, w.few.ensures, c.requires.within.within, ap length places, as_many_names list.items) in
      let named : slice_get (names_in list.items) i ≡ Some c.args.member.now = (λ k. slice_get (sym places k) (w.few.ensures k)) ∙ c.requires.place in
      let here = w.index_mut.result.now in
      subst the_invariant (sym w.self-inside-is)
      (few_exchange (rule_of c.self.inside.rule) c.self.inside.form list list.items w.in-Few.is refl c.self.invariant i here c.args.member.now c.args.entry _ within w.index_mut.ensures.value named
      (sym c.in-Some.ensures.none) (ap (λ (e : Entry). slice_set list.items i (record { name = here.name; entry = e })) w.replace.ensures.after) (length-set list.items i _)).0
  | in-Many w ↦
      let rule = rule_of c.self.inside.rule in
      let x = w.deref_mut.result.now in
      subst the_invariant (sym w.self-inside-is)
      (many_added_scored rule x.held (many_scored rule c.self.inside.form w.in-Many.many x w.in-Many.is w.deref_mut.ensures.value c.self.invariant) c.args.member.now c.args.entry c.in-Some.score _
      (handed_on c.in-Some.score c.in-Some.ensures.within) (sym c.in-Some.ensures.preferred) w.replace_at.new.self.held w.replace_at.ensures.held)
]

pub returns-clause-before : goal.returns-clause-before
returns-clause-before c =
    let m = c.args.member.now in
    elim c.match-self.branch [
      | in-Few w ↦
          let list = w.in-Few.list in
          let i = w.few.result in
          let places : c.args.self.now.places ≡ names_in list.items = ap (λ k. k.places) (sym c.self.view_is) ∙ ap places_in w.in-Few.is in
          let within : i < length list.items = omega (arith, w.few.ensures, c.requires.within.within, ap length places, as_many_names list.items) in
          let named : slice_get (names_in list.items) i ≡ Some m = (λ k. slice_get (sym places k) (w.few.ensures k)) ∙ c.requires.place in
          ap (λ k. get k.entries m) (sym c.self.view_is)
          ∙ few_got (rule_of c.self.inside.rule) c.self.inside.form list list.items w.in-Few.is refl c.self.invariant i w.index_mut.result.now m within w.index_mut.ensures.value named
          ∙ ap (λ (e : Entry). Some e) (sym w.replace.ensures.value ∙ sym w.result-is)
      | in-Many w ↦
          let x = w.deref_mut.result.now in
          ap (λ k. get k.entries m) (sym c.self.view_is)
          ∙ ap (λ e. get e m) (sym (many_entries (rule_of c.self.inside.rule) c.self.inside.form w.in-Many.many x w.in-Many.is w.deref_mut.ensures.value c.self.invariant))
          ∙ get-entries_of x.held m ∙ w.replace_at.ensures.given ∙ ap (λ (e : Entry). Some e) (sym w.result-is)
    ]

pub returns-clause-set : goal.returns-clause-set
returns-clause-set c =
    let m = c.args.member.now in
    elim c.match-self.branch [
      | in-Few w ↦
          let list = w.in-Few.list in
          let i = w.few.result in
          let places : c.args.self.now.places ≡ names_in list.items = ap (λ k. k.places) (sym c.self.view_is) ∙ ap places_in w.in-Few.is in
          let within : i < length list.items = omega (arith, w.few.ensures, c.requires.within.within, ap length places, as_many_names list.items) in
          let named : slice_get (names_in list.items) i ≡ Some m = (λ k. slice_get (sym places k) (w.few.ensures k)) ∙ c.requires.place in
          let here = w.index_mut.result.now in
          ap (λ s. entries_in s.form) w.self-inside-is
          ∙ (few_exchange (rule_of c.self.inside.rule) c.self.inside.form list list.items w.in-Few.is refl c.self.invariant i here m c.args.entry _ within w.index_mut.ensures.value named
          (sym c.in-Some.ensures.none) (ap (λ (e : Entry). slice_set list.items i (record { name = here.name; entry = e })) w.replace.ensures.after) (length-set list.items i _)).1
          ∙ sym (set_some (entries_in c.self.inside.form) m c.args.entry (sym c.in-Some.ensures.none)) ∙ ap (λ k. set_entry k.entries m c.args.entry) c.self.view_is
      | in-Many w ↦
          let rule = rule_of c.self.inside.rule in
          let x = w.deref_mut.result.now in
          ap (λ s. entries_in s.form) w.self-inside-is
          ∙ many_added_set rule x.held (many_scored rule c.self.inside.form w.in-Many.many x w.in-Many.is w.deref_mut.ensures.value c.self.invariant) m c.args.entry c.in-Some.score _
          (handed_on c.in-Some.score c.in-Some.ensures.within) (sym c.in-Some.ensures.preferred) w.replace_at.new.self.held w.replace_at.ensures.held
          ∙ ap (λ e. set_entry e m c.args.entry) (many_entries rule c.self.inside.form w.in-Many.many x w.in-Many.is w.deref_mut.ensures.value c.self.invariant)
          ∙ ap (λ k. set_entry k.entries m c.args.entry) c.self.view_is
    ]

pub returns-clause-places : goal.returns-clause-places
returns-clause-places c =
    not_bare c.args.entry _ c.args.self.now.places _ (sym c.in-Some.ensures.none)
    (elim c.match-self.branch [
      | in-Few w ↦
          let list = w.in-Few.list in
          let i = w.few.result in
          let places : c.args.self.now.places ≡ names_in list.items = ap (λ k. k.places) (sym c.self.view_is) ∙ ap places_in w.in-Few.is in
          let within : i < length list.items = omega (arith, w.few.ensures, c.requires.within.within, ap length places, as_many_names list.items) in
          ap (λ s. places_in s.form) w.self-inside-is ∙ names_set list.items i w.index_mut.result.now _ within w.index_mut.ensures.value ∙ sym places
      | in-Many w ↦
          ap (λ s. places_in s.form) w.self-inside-is ∙ w.replace_at.ensures.places ∙ ap (λ y. y.places) w.deref_mut.ensures.value ∙ sym (ap places_in w.in-Many.is)
          ∙ ap (λ k. k.places) c.self.view_is
    ])
