-- What stands once the heap's last place, its member's position and its member's entry are gone.
use Rattle.std.specs.FinMap.{remove}
use Rattle.indexmap.specs.IndexMap.{IndexMap, Updates}
use Rattle.zq_posheap.proofs.Entries.{removed, seen_in}
use Rattle.zq_posheap.proofs.Scored.{text_there}
use Rattle.std.specs.Prelude.{IfSome, List, None, Option, Some, [], get_or, length, map, slice_get, slice_set, swap_remove, take, ℕ, ℤ, ◌+◌, ◌-◌, ◌<◌, ◌≤◌, ◌≡◌, ◌≢◌}
use Rattle.std.proofs.Common.{ap, arith, subst, sym, ◌∙◌}
use Rattle.std.proofs.lemmas.List.{length-map}
use Rattle.std.proofs.lemmas.Option.{get_or_from_slice_get, none-some, same_Some, slice_get_within}
use Rattle.std.specs.Map.{keys_of, values_of}
use Rattle.std.proofs.lemmas.Map.Entries.{length-values_of}
use Rattle.zq_posheap.proofs.Dropped.{IsCut, dropped, dropped_queue, end_cut, moved_within, told_cut}
use Rattle.zq_posheap.proofs.Linked.{index_within, slot, slot_there}
use Rattle.zq_posheap.proofs.Lists.{slice_get-set_same, slice_get-take, there_is}
use Rattle.zq_posheap.proofs.Removal.{entry_here, other_entries, other_seen, seen_here, seen_left}
use Rattle.zq_posheap.specs.Links.{IsLinked}
use Rattle.zq_posheap.specs.Moves.{pairs_of, shown}
use Rattle.zq_posheap.specs.Order.{Scored, near, nobody, same_key, scored_slots}
use Rattle.zq_posheap.specs.declared.heap.ScoredValue.{ScoredValue}
use Rattle.zq_posheap.specs.declared.heap.Slot.{Slot}

-- what is near the score of each member
abbrev pub nears : {V : Type 0} → List (List ℕ × ScoredValue V) → List ℤ
nears es = map (λ w. near w.score) (values_of es)

-- one for each entry
pub many : {V : Type 0} (es : List (List ℕ × ScoredValue V)) → length (nears es) ≡ length es
many es = length-map (values_of es) (λ w. near w.score) ∙ length-values_of es

module _ {V : Type 0} (slots slots' : List Slot) (positions positions' : List ℕ) (es es' : List (List ℕ × ScoredValue V)) (linked : IsLinked slots positions (nears es)) (f : Slot)
    (last : slice_get slots (length slots - 1) ≡ Some f) (rest : slots' ≡ take (length slots - 1) slots)
    (r : Option (List ℕ × ScoredValue V)) (entry : r ≡ slice_get es f.index) (entries : IfSome r (λ p. es' ≡ swap_remove es f.index p)) where
  long : (length slots - 1) + 1 ≡ length slots
  long = omega (arith, slice_get_within slots (length slots - 1) f last)

  positions_long : length positions ≡ (length slots - 1) + 1
  positions_long = omega (arith, long, length-map slots (λ (s : Slot). s.index), linked.placed.one_length)

  es_long : length es ≡ (length slots - 1) + 1
  es_long = omega (arith, positions_long, linked.as_many, many es)

  -- the index of the last place is that of an entry
  pub within : f.index < (length slots - 1) + 1
  within = omega (arith, index_within slots positions (nears es) linked (length slots - 1) f last, positions_long)

  left : length (nears es') ≡ length slots - 1
  left = seen_left es es' f.index (length slots - 1) r es_long within entry entries (λ w. near w.score)

  -- the entry that goes is there
  gone_there : (e : List ℕ × ScoredValue V) × (slice_get es f.index ≡ Some e)
  gone_there = there_is es f.index (omega (arith, within, es_long))

  pub not_none : r ≢ None
  not_none none = none-some gone_there.0 (sym none ∙ entry ∙ gone_there.1)

  module _ (gone : ℕ) (told : positions' ≡ swap_remove positions f.index gone) where
    pub moved : (q : ℕ) × (slice_get positions (length slots - 1) ≡ Some q)
    moved = there_is positions (length slots - 1) (omega (arith, positions_long))

    told_is : positions' ≡ take (length slots - 1) (slice_set positions f.index moved.0)
    told_is =
        let end : length positions - 1 ≡ length slots - 1 = omega (arith, positions_long) in
        let at_end : get_or positions (length positions - 1) gone ≡ moved.0 =
        ap (λ k. get_or positions k gone) end ∙ get_or_from_slice_get positions (length slots - 1) moved.0 gone moved.1 in
        told ∙ (λ k. take (end k) (slice_set positions f.index (at_end k)))

    -- heap and map still know each other
    pub still_linked : (slots'' : List Slot) → IsCut slots slots'' (length slots - 1) f.index moved.0 → IsLinked slots'' positions' (nears es')
    still_linked slots'' cut =
        dropped slots positions (nears es) linked (length slots - 1) f.index moved.0 f.near long last moved.1 slots'' cut positions' (nears es') told_is left
        (other_seen es es' f.index (length slots - 1) r es_long within entry entries (λ w. near w.score))
        (seen_here es es' f.index (length slots - 1) r es_long within entry entries (λ w. near w.score))

    -- and at each place that stays stands what stood there
    pub still_queued : (slots'' : List Slot) → IsCut slots slots'' (length slots - 1) f.index moved.0 → (m : ℕ) (d : Scored) → m < length slots'' →
        get_or (scored_slots (pairs_of es') slots'') m d ≡ get_or (scored_slots (pairs_of es) slots) m d
    still_queued slots'' cut m d inside =
        dropped_queue slots positions (nears es) linked (length slots - 1) f.index moved.0 f.near long last moved.1 slots'' cut (pairs_of es) (pairs_of es')
        (other_entries es es' f.index (length slots - 1) r es_long within entry entries (λ e. (e.1.score, e.0)) nobody)
        (entry_here es es' f.index (length slots - 1) r es_long within entry entries (λ e. (e.1.score, e.0)) nobody) m d (omega (arith, inside, cut.one_less))

    -- where the last place had the last entry
    pub at_the_end : length slots - 1 ≤ f.index → IsCut slots slots' (length slots - 1) f.index moved.0
    at_the_end past =
        let same : length slots - 1 ≡ f.index = omega (arith, past, within) in
        subst (λ xs. IsCut slots xs (length slots - 1) f.index moved.0) (sym rest)
        (end_cut slots positions (nears es) linked (length slots - 1) f.index moved.0 f.near long last moved.1 same)

    -- and where the last entry came to another index, at which its position stands
    module _ (inside : f.index < length slots - 1) (p : ℕ) (at_index : slice_get positions' f.index ≡ Some p) where
      same_place : p ≡ moved.0
      same_place = same_Some _ _ (sym at_index ∙ ap (λ ys. slice_get ys f.index) told_is
          ∙ slice_get-take (length slots - 1) (slice_set positions f.index moved.0) f.index inside
          ∙ slice_get-set_same positions f.index moved.0 (omega (arith, within, positions_long)))

      pub near_there : (t : ℤ) × (slice_get (nears es) (length slots - 1) ≡ Some t)
      near_there = there_is (nears es) (length slots - 1) (omega (arith, es_long, many es))

      place_within : moved.0 < length slots - 1
      place_within = moved_within slots positions (nears es) linked (length slots - 1) f.index moved.0 f.near long last moved.1 inside near_there.0 near_there.1

      pub moved_there : slice_get slots' p ≡ Some (slot near_there.0 (length slots - 1))
      moved_there = ap (slice_get slots') same_place ∙ ap (λ xs. slice_get xs moved.0) rest ∙ slice_get-take (length slots - 1) slots moved.0 place_within
          ∙ slot_there slots positions (nears es) linked (length slots - 1) moved.0 near_there.0 moved.1 near_there.1

      pub at_its_place : (x : Slot) → slice_get slots' p ≡ Some x → IsCut slots (slice_set slots' p (slot x.near f.index)) (length slots - 1) f.index moved.0
      at_its_place x here =
          let same_near : x.near ≡ near_there.0 = ap (λ s. s.near) (same_Some _ _ (sym here ∙ moved_there)) in
          subst (λ xs. IsCut slots xs (length slots - 1) f.index moved.0) (λ k. slice_set (sym rest k) (sym same_place k) (slot (sym same_near k) f.index))
          (told_cut slots positions (nears es) linked (length slots - 1) f.index moved.0 f.near long last moved.1 inside near_there.0 near_there.1)

-- the member of the last place is no more among what is seen
pub removed_last : {V S : Type 0} (m m' : IndexMap (List ℕ) (ScoredValue V) S) (f : Slot) → f.index < length m.entries →
    (r : Option (List ℕ × ScoredValue V)) → r ≡ slice_get m.entries f.index → IfSome r (λ p. Updates same_key m m' p.0 None) →
    seen_in shown m'.entries ≡ remove (seen_in shown m.entries) (get_or (keys_of m.entries) f.index [])
removed_last m m' f within r entry updates =
    let e = there_is m.entries f.index within in
    let taken = subst (λ o. IfSome o (λ p. Updates same_key m m' p.0 None)) (entry ∙ e.1) updates in
    removed shown m m' e.0.0 taken ∙ ap (remove (seen_in shown m.entries)) (text_there m.entries f.index e.0.0 e.0.1 e.1)
