-- The places of merges, event by event.

use Rattle.std.proofs.Common.{List, Option, Some, Vec, [], ap, arith, inl, inr, length, option_map, refl, set, subst, sym, ℕ, ◌++◌, ◌+◌, ◌<◌, ◌∙◌, ◌∷◌, ◌≡◌, ◌≤◌}
use Rattle.std.proofs.lemmas.Bool.{cases_eq}
use Rattle.std.proofs.lemmas.List.{length-map, length-set}
use Rattle.std.proofs.lemmas.Option.{same_Some, slice_get-map, slice_get_within}
use Rattle.std.specs.Prelude.{slice_get}
use Rattle.std.specs.declared.alloc.Global.{Global}
use Rattle.zq_model.proofs.Membership.{in_left, in_right, in_union}
use Rattle.zq_model.specs.Sets.{IsIn}
use Rattle.zq_posheap.proofs.Lists.{behind, mapped_at, slice_get-set_other, slice_get-set_same}
use Rattle.zq_semantics.proofs.MovedBooks.{read_within}
use Rattle.zq_semantics.specs.Events.{Do, Event, Merge, Take}
use Rattle.zq_world.proofs.Keepings.{only}
use Rattle.zq_world.specs.Play.{event_of}
use Rattle.zq_world.specs.Wanted.{AreWanted, IsWith, places_in}
use Rattle.zq_world.specs.declared.event.Event as declared
use Rattle.zq_world.specs.declared.event.Event.TheVariants as event

-- where all lists are empty, nothing is found
pub wanted_none : (events : List Event) (wanted : List (Vec ℕ Global)) → ((moment : ℕ) (places : Vec ℕ Global) → slice_get wanted moment ≡ Some places → places.items ≡ []) →
    AreWanted 0 events (places_in wanted)
wanted_none events wanted none = record {
  each = λ place site from heap moment places low is at. absurd (omega (arith, low));
  inside = λ moment place places at here.
      let its = behind (λ (v : Vec ℕ Global). v.items) wanted moment places at in
      absurd (subst (IsIn place) (sym its.2 ∙ none moment its.0 its.1) here);
}

abbrev moment_in : Event → ℕ
moment_in (Do site words w1 w2) = 0
moment_in (Take site op) = 0
moment_in (Merge site from heap moment) = moment

-- merges at one place have one moment
moment_of : (e : Option Event) (s f h m site from heap moment : ℕ) → e ≡ Some (Merge s f h m) → e ≡ Some (Merge site from heap moment) → m ≡ moment
moment_of e s f h m site from heap moment one other = ap moment_in (same_Some (Merge s f h m) (Merge site from heap moment) (sym one ∙ other))

module _ (place : ℕ) (events : List Event) (old : List (List ℕ)) where
  -- an event that merges nothing has no place
  pub wanted_same : ((site from heap moment : ℕ) → slice_get events place ≡ Some (Merge site from heap moment) → ⊥) → AreWanted place events old → AreWanted (place + 1) events old
  wanted_same other are = record {
    each = λ i site from heap moment places low is at. elim (cases_eq i place) [
      | inl same ↦ absurd (other site from heap moment (ap (slice_get events) (sym same) ∙ is))
      | inr apart ↦ are.each i site from heap moment places (omega (arith, low, apart)) is at
    ];
    inside = are.inside;
  }

  -- a merge has its place at its moment
  pub wanted_with : (site from heap moment : ℕ) (new : List (List ℕ)) → slice_get events place ≡ Some (Merge site from heap moment) → IsWith moment place old new →
      AreWanted place events old → AreWanted (place + 1) events new
  wanted_with site from heap moment new here is are =
      let old_at : (places : List ℕ) → slice_get new moment ≡ Some places → (before : List ℕ) × (slice_get old moment ≡ Some before) × (places ≡ before ++ place ∷ [])
      = λ places at.
      let inside = slice_get_within new moment places at in
      let before = read_within old moment (omega (arith, inside, is.number)) in
      (before.0, before.1, same_Some places (before.0 ++ place ∷ []) (sym at ∙ is.here before.0 before.1)) in
      record {
        each = λ i s f h m places low event at. elim (cases_eq m moment) [
          | inl same ↦
              let before = old_at places (ap (slice_get new) (sym same) ∙ at) in
              subst (IsIn i) (sym before.2) (elim (cases_eq i place) [
                | inl last ↦ in_right i before.0 (place ∷ []) (inl (sym last))
                | inr apart ↦ in_left i before.0 (place ∷ []) (are.each i s f h m before.0 (omega (arith, low, apart)) event (ap (slice_get old) same ∙ before.1))
              ])
          | inr apart ↦ elim (cases_eq i place) [
            | inl last ↦ absurd (apart (moment_of _ s f h m site from heap moment (ap (slice_get events) (sym last) ∙ event) here))
            | inr before ↦ are.each i s f h m places (omega (arith, low, before)) event (sym (is.others m apart) ∙ at)
          ]
        ];
        inside = λ m i places at among. elim (cases_eq m moment) [
          | inl same ↦
              let before = old_at places (ap (slice_get new) (sym same) ∙ at) in
              elim (in_union i before.0 (place ∷ []) (subst (IsIn i) before.2 among)) [
                | inl earlier ↦ are.inside moment i before.0 before.1 earlier
                | inr last ↦ subst (λ n. n < length events) (sym (only i place last)) (slice_get_within events place (Merge site from heap moment) here)
              ]
          | inr apart ↦ are.inside m i places (sym (is.others m apart) ∙ at) among
        ];
      }

-- a place that is pushed at a moment
pub with_pushed : (wanted : List (Vec ℕ Global)) (moment place : ℕ) (old new : Vec ℕ Global) → slice_get wanted moment ≡ Some old → new.items ≡ old.items ++ place ∷ [] →
    IsWith moment place (places_in wanted) (places_in (set wanted moment new))
with_pushed wanted moment place old new at is =
    let inside = slice_get_within wanted moment old at in
    let items = λ (v : Vec ℕ Global). v.items in
    record {
      number = length-map (set wanted moment new) items ∙ length-set wanted moment new ∙ sym (length-map wanted items);
      here = λ places before.
          let was = behind items wanted moment places before in
          let same : old ≡ was.0 = same_Some old was.0 (sym at ∙ was.1) in
          mapped_at items (set wanted moment new) moment new (slice_get-set_same wanted moment new inside) ∙ ap (λ ps. Some ps) (is ∙ ap (λ (v : Vec ℕ Global). v.items ++ place ∷ []) same ∙ ap (λ ps. ps ++ place ∷ []) was.2);
      others = λ other apart. slice_get-map items (set wanted moment new) other ∙ ap (option_map items) (slice_get-set_other wanted moment other new apart) ∙ sym (slice_get-map items wanted other);
    }

-- where there is no such moment, nothing is pushed
pub with_none : (wanted : List (Vec ℕ Global)) (moment place : ℕ) → length wanted ≤ moment → IsWith moment place (places_in wanted) (places_in wanted)
with_none wanted moment place past = record {
  number = refl;
  here = λ places before.
      let was = behind (λ (v : Vec ℕ Global). v.items) wanted moment places before in
      let inside = slice_get_within wanted moment was.0 was.1 in
      absurd (omega (arith, inside, past));
  others = λ other apart. refl;
}

-- only a merge is one in the model
pub merge_is : (its : declared.Event) (site from heap moment : ℕ) → event_of its ≡ Merge site from heap moment → its ≡ event.Merge site from heap moment
merge_is (event.Do site request w1 w2) s f h m is = absurd (cc)
merge_is (event.Take site op) s f h m is = absurd (cc)
merge_is (event.Merge site from heap moment) s f h m is = cc
