-- A loop that looks at each entry of a map of the code.

use Rattle.std.proofs.Common.{List, None, Option, Some, ap, cond, false, inl, inr, refl, subst, sym, true, ℕ, ◌∙◌, ◌∷◌, ◌≡◌, ◌⊎◌}
use Rattle.std.proofs.lemmas.Cmp.{nat_list_cmp_total}
use Rattle.std.proofs.lemmas.Map.Iter.{rest_all, rest_more}
use Rattle.std.proofs.lemmas.Map.Lookups.{exact_bytes}
use Rattle.std.proofs.lemmas.Option.{none-some, same_Some}
use Rattle.std.specs.FinMap.{find}
use Rattle.std.specs.List.{IsDistinct}
use Rattle.std.specs.Map.{keys_of}
use Rattle.std.specs.Map.Iter.{TakesFirst}
use Rattle.std.specs.Ordering.{eq_by_cmp}
use Rattle.zq_model.proofs.Maps as maps
use Rattle.zq_posheap.specs.Order.{same_key}
use Rattle.std.specs.Prelude.{option_map}
use Rattle.zq_queue.specs.Entries.{bytes_cmp}
use Rattle.zq_queue.specs.Queued.{Queued, without_places}
use Rattle.zq_shard.proofs.Gathering.{fresh}
use Rattle.zq_shard.specs.Queues.{HasSame}

-- what the source has of a key is left, or is as it should be
pub record IsWithinSoFar {X : Type 0} (source rest : List (List ℕ × X)) (fits : List ℕ → X → Type 0) : Type 0 where
  pub looked : (q : List ℕ) (x : X) → find bytes_cmp q source ≡ Some x → (find bytes_cmp q rest ≡ Some x) ⊎ fits q x
  pub whole : (q : List ℕ) (x : X) → find bytes_cmp q rest ≡ Some x → find bytes_cmp q source ≡ Some x
  pub distinct : IsDistinct same_key (keys_of rest)

pub within_start : {X : Type 0} (source s : List (List ℕ × X)) (fits : List ℕ → X → Type 0) → s ≡ source → IsDistinct same_key (keys_of source) → IsWithinSoFar source s fits
within_start source s fits is distinct =
    subst (λ rest. IsWithinSoFar source rest fits) (sym is) (record { looked = λ q x some. inl some; whole = λ q x some. some; distinct = distinct })

first_found : {X : Type 0} (e : List ℕ × X) (rest : List (List ℕ × X)) → find bytes_cmp e.0 (e ∷ rest) ≡ Some e.1
first_found e rest = ap (λ b. cond b (Some e.1) (find bytes_cmp e.0 rest)) (maps.key_same nat_list_cmp_total e.0 e.0 refl)

within_more : {X : Type 0} (source rest : List (List ℕ × X)) (fits : List ℕ → X → Type 0) (e : List ℕ × X) → IsWithinSoFar source (e ∷ rest) fits → fits e.0 e.1 →
    IsWithinSoFar source rest fits
unfolding IsDistinct
within_more source rest fits e so there = record {
  looked = λ q x some.
      elim (so.looked q x some) [
        | inl left ↦
            elim (eq_by_cmp bytes_cmp q e.0) as (λ b. eq_by_cmp bytes_cmp q e.0 ≡ b → cond b (Some e.1) (find bytes_cmp q rest) ≡ Some x →
            (find bytes_cmp q rest ≡ Some x) ⊎ fits q x) [
              | true ↦ λ here is. inr (subst (λ k. fits k x) (sym (maps.same_key exact_bytes q e.0 here)) (subst (fits e.0) (same_Some e.1 x is) there))
              | false ↦ λ away is. inl is
            ] refl left
        | inr found ↦ inr found
      ];
  whole = λ q x some. so.whole q x
      (elim (eq_by_cmp bytes_cmp q e.0) as (λ b. eq_by_cmp bytes_cmp q e.0 ≡ b → cond b (Some e.1) (find bytes_cmp q rest) ≡ Some x) [
        | true ↦ λ here. absurd (none-some x (sym (fresh e.0 rest so.distinct.0) ∙ ap (λ k. find bytes_cmp k rest) (sym (maps.same_key exact_bytes q e.0 here)) ∙ some))
        | false ↦ λ away. some
      ] refl);
  distinct = so.distinct.1;
}

module _ {A X : Type 0} (shows : A → List ℕ × X) (source s t : List (List ℕ × X)) (fits : List ℕ → X → Type 0) (r : Option A) (so : IsWithinSoFar source s fits) (takes : TakesFirst shows s r t) where
  pub within_turn : (x : A) → r ≡ Some x → fits (shows x).0 (shows x).1 → IsWithinSoFar source t fits
  within_turn x gives there = within_more source t fits (shows x) (subst (λ rest. IsWithinSoFar source rest fits) (rest_more shows s t r x gives takes) so) there

  -- the entry that comes is one of the source
  pub within_source : (x : A) → r ≡ Some x → find bytes_cmp (shows x).0 source ≡ Some (shows x).1
  within_source x gives =
      (subst (λ rest. IsWithinSoFar source rest fits) (rest_more shows s t r x gives takes) so).whole (shows x).0 (shows x).1 (first_found (shows x) t)

  pub within_end : r ≡ None → (q : List ℕ) (x : X) → find bytes_cmp q source ≡ Some x → fits q x
  within_end none q x some =
      elim ((subst (λ rest. IsWithinSoFar source rest fits) (rest_all shows s t r none takes) so).looked q x some) [
        | inl left ↦ absurd (none-some x left)
        | inr found ↦ found
      ]

-- what has the same queues as the other, and the other as it, has them the same at each key
module _ (a b : List (List ℕ × Queued)) where
  pub both_same : ((q : List ℕ) (queue : Queued) → find bytes_cmp q a ≡ Some queue → HasSame b q queue) → ((q : List ℕ) (queue : Queued) → find bytes_cmp q b ≡ Some queue → HasSame a q queue) →
      (q : List ℕ) → option_map without_places (find bytes_cmp q a) ≡ option_map without_places (find bytes_cmp q b)
  both_same forth back q = by (find bytes_cmp q a) (find bytes_cmp q b) refl refl
    where
      by : (x y : Option Queued) → find bytes_cmp q a ≡ x → find bytes_cmp q b ≡ y → option_map without_places x ≡ option_map without_places y
      by None None e f = refl
      by None (Some y) e f = sym (ap (option_map without_places) e) ∙ back q y f
      by (Some x) y e f = sym (forth q x e) ∙ ap (option_map without_places) f

  pub same_within : ((q : List ℕ) → option_map without_places (find bytes_cmp q a) ≡ option_map without_places (find bytes_cmp q b)) → (q : List ℕ) (queue : Queued) → find bytes_cmp q a ≡ Some queue → HasSame b q queue
  same_within same q queue some = sym (same q) ∙ ap (option_map without_places) some
