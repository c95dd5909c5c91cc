-- What stands in the queue of some members: the members of the key that have a score, with it.
use Rattle.std.proofs.Common.{◌≡◌, ℕ, ℤ, cond, true, false, is_some, List, None, Option, Some, nat_eq, option_map, refl, sym, ap, ◌∙◌, unwrap_or}
use Rattle.std.proofs.lemmas.Bool.{cond-true}
use Rattle.std.proofs.lemmas.Option.{none-some, same_Some}
use Rattle.std.specs.Cmp.Lexicographic.{pointwise}
use Rattle.std.specs.FinMap.{get, keys}
use Rattle.zq_model.proofs.Entries.{addition_at-no_additions}
use Rattle.zq_model.proofs.Listing.{in_filter_map, in_filter_map_from, in_flat_map, in_flat_map_from, key_from_list, key_in, key_of_list}
use Rattle.zq_model.proofs.Maps.{place_exact, place_total}
use Rattle.zq_model.proofs.Places.{bytes_same, same_bytes}
use Rattle.zq_model.proofs.Preferred.{score_reached}
use Rattle.zq_model.proofs.Rising.{scored_exact, scored_total}
use Rattle.zq_model.specs.Image.{Members, Place, entry_at, no_additions}
use Rattle.zq_model.specs.Meaning.{Scored}
use Rattle.zq_model.specs.Queue.{queue_of, scored_at, scored_of}
use Rattle.zq_model.specs.Rule.{Rule}
use Rattle.zq_model.specs.Score.{score_of}
use Rattle.zq_model.specs.Sets.{IsIn}

abbrev pub with_score : List ℕ → ℤ → Scored
with_score m x = (x, m)

pub some_score : (r : Option ℤ) (n m : List ℕ) (x : ℤ) → option_map (with_score n) r ≡ Some (with_score m x) → (r ≡ Some x) × (n ≡ m)
some_score None n m x e = absurd (none-some (with_score m x) e)
some_score (Some y) n m x e =
    let pair : with_score n y ≡ with_score m x = same_Some (with_score n y) (with_score m x) e in
    (ap (λ (z : Scored). Some z.0) pair, ap (λ (z : Scored). z.1) pair)

-- what a place gives to a key's queue
scored_at_parts : (rule : Rule) (key : List ℕ) (members : Members) (q : Place) (x : ℤ) (m : List ℕ) → scored_at rule key members q ≡ Some (with_score m x) →
    score_of rule (entry_at members (key, m)) ≡ Some x
scored_at_parts rule key members q x m is =
    elim (pointwise nat_eq q.0 key) as (λ b. pointwise nat_eq q.0 key ≡ b → cond b (option_map (with_score q.1) (score_of rule (entry_at members q))) None ≡ Some (with_score m x) → score_of rule (entry_at members (key, m)) ≡ Some x) [
      | true ↦ λ on e.
          let score = some_score (score_of rule (entry_at members q)) q.1 m x e in
          ap (λ (p : Place). score_of rule (entry_at members p)) (λ i. (sym (same_bytes q.0 key on) i, sym score.1 i)) ∙ score.0
      | false ↦ λ off e. absurd (none-some (with_score m x) e)
    ] refl is

scored_at_from : (rule : Rule) (key : List ℕ) (members : Members) (x : ℤ) (m : List ℕ) → score_of rule (entry_at members (key, m)) ≡ Some x →
    scored_at rule key members (key, m) ≡ Some (x, m)
scored_at_from rule key members x m is = cond-true _ _ None (bytes_same key key refl) ∙ ap (option_map (with_score m)) is

-- a member with a score is among the keys
scored_key : (rule : Rule) (members : Members) (q : Place) (x : ℤ) → score_of rule (entry_at members q) ≡ Some x → IsIn q (keys members)
scored_key rule members q x is = key_in place_total place_exact members q (
    elim (get members q) as (λ r. get members q ≡ r → is_some r ≡ true) [
      | None ↦ λ none.
          let bare : score_of rule no_additions ≡ Some x = ap (λ r. score_of rule (unwrap_or r no_additions)) (sym none) ∙ is in
          let value = score_reached rule no_additions x bare in
          absurd (none-some value.1 (sym (addition_at-no_additions value.0) ∙ value.2))
      | Some e ↦ λ some. refl
    ] refl)

module _ (rule : Rule) (key : List ℕ) (heaps : List Members) where
  -- what stands in the queue is a member that has this score in one of the heaps
  pub queued_score : (x : ℤ) (m : List ℕ) → IsIn (x, m) (queue_of rule key heaps) →
      (members : Members) × IsIn members heaps × (score_of rule (entry_at members (key, m)) ≡ Some x)
  queued_score x m here =
      let listed = key_of_list scored_total scored_exact (λ _. tt) _ (x, m) here in
      let of_heap = in_flat_map_from (scored_of rule key) (x, m) heaps listed in
      let place = in_filter_map_from (scored_at rule key of_heap.0) (x, m) (keys of_heap.0) of_heap.2 in
      (of_heap.0, of_heap.1, scored_at_parts rule key of_heap.0 place.0 x m place.2)

  -- a member that has a score in one of the heaps stands in the queue
  pub score_queued : (x : ℤ) (m : List ℕ) (members : Members) → IsIn members heaps → score_of rule (entry_at members (key, m)) ≡ Some x → IsIn (x, m) (queue_of rule key heaps)
  score_queued x m members among score =
      key_from_list scored_total scored_exact (λ _. tt) _ (x, m)
      (in_flat_map (scored_of rule key) (x, m) members heaps among
      (in_filter_map (scored_at rule key members) (x, m) (key, m) (keys members) (scored_key rule members (key, m) x score) (scored_at_from rule key members x m score)))
