-- Members keep their places, one is added behind them, or one is taken out and the last one comes to its place.
use Rattle.std.proofs.Common.{Err, Ok, Result, ap, arith, inl, inr, refl, subst, sym, ◌∙◌}
use Rattle.std.proofs.lemmas.Bool.{cases_eq}
use Rattle.std.proofs.lemmas.Option.{none-some, same_Some, slice_get_within}
use Rattle.std.specs.FinMap.{get, remove}
use Rattle.std.specs.Prelude.{Bool, List, None, OnOk, Some, [], false, if◌then◌else◌, length, slice_get, swap_remove, true, ℕ, ◌+◌, ◌++◌, ◌-◌, ◌<◌, ◌∷◌, ◌≡◌, ◌≤◌}
use Rattle.zq_model.specs.Image.{Entry, is_bare}
use Rattle.zq_posheap.proofs.Lists.{slice_get-append_left, swap_remove_here, swap_remove_other}
use Rattle.zq_queue.proofs.Changing.{set_bare}
use Rattle.zq_queue.proofs.Indexes.{got_removed}
use Rattle.zq_queue.specs.Entries.{Entries, set_entry}
use Rattle.zq_queue.specs.Queued.{Queued}
use Rattle.zq_queue.specs.Sinks.{Sinks}

module _ (old new : Queued) where
  pub still : new.places ≡ old.places → Sinks old new
  still same i member entry at got = (i, (omega arith, ap (λ ps. slice_get ps i) same ∙ at))

  pub added : (name : List ℕ) → new.places ≡ old.places ++ name ∷ [] → Sinks old new
  added name is i member entry at got =
      (i, (omega arith, ap (λ ps. slice_get ps i) is ∙ slice_get-append_left old.places (name ∷ []) i (slice_get_within old.places i member at) ∙ at))

  module _ (at : ℕ) (name : List ℕ) (there : slice_get old.places at ≡ Some name) (is : new.places ≡ swap_remove old.places at []) (gone : get new.entries name ≡ None) where
    inside : at < length old.places
    inside = slice_get_within old.places at name there

    pub taken : Sinks old new
    taken i member entry here got =
        let within : i < length old.places = slice_get_within old.places i member here in
        elim (cases_eq i at) as (λ _. (j : ℕ) × ((j ≤ i) × (slice_get new.places j ≡ Some member))) [
          | inl same ↦
              let its : name ≡ member = same_Some name member (sym there ∙ ap (slice_get old.places) (sym same) ∙ here) in
              absurd (none-some entry (sym gone ∙ ap (get new.entries) its ∙ got))
          | inr apart ↦ elim (cases_eq (i + 1) (length old.places)) as (λ _. (j : ℕ) × ((j ≤ i) × (slice_get new.places j ≡ Some member))) [
            | inl last ↦ (
              at,
              (
                omega (arith, inside, last, apart),
                ap (λ ps. slice_get ps at) is ∙ swap_remove_here old.places at [] (omega (arith, inside, last, apart))
                    ∙ (let end : length old.places - 1 ≡ i = omega (arith, last) in ap (slice_get old.places) end) ∙ here,
              ),
            )
            | inr before ↦
                (i, (omega arith, ap (λ ps. slice_get ps i) is ∙ swap_remove_other old.places at i [] apart (omega (arith, within, before)) ∙ here))
          ]
        ]

-- where a member got another entry, or was taken out since that was bare
pub exchanged : (old new : Queued) (at : ℕ) (name : List ℕ) (entry : Entry) → slice_get old.places at ≡ Some name →
    new.places ≡ (if is_bare entry then swap_remove old.places at [] else old.places) → new.entries ≡ set_entry old.entries name entry → Sinks old new
exchanged old new at name entry there places set = by (is_bare entry) refl
  where
    by : (bare : Bool) → bare ≡ is_bare entry → Sinks old new
    by true is =
        taken old new at name there (places ∙ ap (λ b. if b then swap_remove old.places at [] else old.places) (sym is))
        (ap (λ m. get m name) (set ∙ set_bare old.entries name entry (sym is)) ∙ got_removed old.entries name entry)
    by false is = still old new (places ∙ ap (λ b. if b then swap_remove old.places at [] else old.places) (sym is))

-- where a member was added, or not, since its entry was bare
pub added_or_not : (old new : Queued) (name : List ℕ) (entry : Entry) → new.places ≡ (if is_bare entry then old.places else old.places ++ name ∷ []) → Sinks old new
added_or_not old new name entry places = by (is_bare entry) refl
  where
    by : (bare : Bool) → bare ≡ is_bare entry → Sinks old new
    by true is = still old new (places ∙ ap (λ b. if b then old.places else old.places ++ name ∷ []) (sym is))
    by false is = added old new name (places ∙ ap (λ b. if b then old.places else old.places ++ name ∷ []) (sym is))

pub added_if : {E : Type 0} (r : Result (Unit {0}) E) (old new : Queued) (name : List ℕ) (entry : Entry) → OnOk r (new.places ≡ (if is_bare entry then old.places else old.places ++ name ∷ [])) →
    OnOk r (Sinks old new)
added_if (Ok u) old new name entry places = added_or_not old new name entry places
added_if (Err e) old new name entry places = tt
