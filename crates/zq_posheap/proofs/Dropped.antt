-- What stands once the last place is gone, and its member's entry, in whose place the map's last entry came.
use Rattle.std.specs.Prelude.{List, Some, length, get_or, slice_get, slice_set, take, ℕ, ℤ, ◌+◌, ◌<◌, ◌≡◌, ◌≢◌, ◌⊎◌}
use Rattle.std.proofs.Common.{ap, arith, inl, inr, subst, sym, ◌∙◌}
use Rattle.std.proofs.Math.Seq.{take-set-lt}
use Rattle.std.proofs.lemmas.Bool.{cases_eq}
use Rattle.std.proofs.lemmas.List.{length-map, length-set, length-take-le, take-map, take-set-le}
use Rattle.std.proofs.lemmas.Option.{same_Some, slice_get_within}
use Rattle.zq_posheap.proofs.Inverses as inverses
use Rattle.zq_posheap.proofs.Linked.{index_there, index_within, indices-set, one_slot, position_there, slot, slot_there}
use Rattle.zq_posheap.proofs.Lists.{slice_get-set_other, slice_get-set_same, slice_get-take, there_is}
use Rattle.zq_posheap.proofs.Scored.{scored_there}
use Rattle.zq_posheap.specs.Links.{IsLinked, indices}
use Rattle.zq_posheap.specs.Order.{Scored, nobody, scored_slots}
use Rattle.zq_posheap.specs.declared.heap.Slot.{Slot}

-- with the entry at i gone, and that at n come there: x' is the slot x, and of the member at n told of the index i
pub record Carries (n i : ℕ) (x x' : Slot) : Type 0 where
  pub near : x'.near ≡ x.near
  pub index : ((x'.index ≡ x.index) × ((x.index ≢ i) × (x.index < n))) ⊎ ((x'.index ≡ i) × ((x.index ≡ n) × (i < n)))

-- what is seen of a member at its slot's index stays
seen_alike : {Y : Type 0} (f f' : ℕ → Y) (n i : ℕ) → ((j : ℕ) → j ≢ i → j < n → f' j ≡ f j) → (i < n → f' i ≡ f n) → (x x' : Slot) → Carries n i x x' → f' x'.index ≡ f x.index
seen_alike f f' n i others here x x' carries = elim carries.index as (λ _. f' x'.index ≡ f x.index) [
  | inl stays ↦ ap f' stays.0 ∙ others x.index stays.1.0 stays.1.1
  | inr comes ↦ ap f' comes.0 ∙ here comes.1.1 ∙ ap f (sym comes.1.0)
]

-- the slots without the last, where the member at n is told of the index i
pub record IsCut (slots slots' : List Slot) (n i q : ℕ) : Type 0 where
  pub one_less : length slots' ≡ n
  pub indices_are : indices slots' ≡ take n (slice_set (indices slots) q i)
  pub carries : (p : ℕ) → p < n → (x : Slot) → slice_get slots p ≡ Some x → (x' : Slot) × ((slice_get slots' p ≡ Some x') × Carries n i x x')

module _ (slots : List Slot) (positions : List ℕ) (nears : List ℤ) (linked : IsLinked slots positions nears) (n i q : ℕ) (s : ℤ) (long : n + 1 ≡ length slots)
    (last : slice_get slots n ≡ Some (slot s i)) (moved : slice_get positions n ≡ Some q) where
  many : length slots ≡ length positions
  many = sym (length-map slots (λ x. x.index)) ∙ linked.placed.one_length

  cut_long : length (take n slots) ≡ n
  cut_long = length-take-le n slots (omega arith)

  at_i : slice_get positions i ≡ Some n
  at_i = position_there slots positions nears linked n (slot s i) last

  -- the member of a place that stays is not the one that goes
  stays_apart : (p : ℕ) (x : Slot) → p < n → slice_get slots p ≡ Some x → x.index ≢ i
  stays_apart p x within here e = let gone : p ≡ n = one_slot slots positions nears linked p n x (slot s i) here last e in omega (arith, gone, within)

  known_within : (p : ℕ) (x : Slot) → slice_get slots p ≡ Some x → x.index < n + 1
  known_within p x here = omega (arith, index_within slots positions nears linked p x here, many, long)

  -- where the last place had the last entry
  pub end_cut : n ≡ i → IsCut slots (take n slots) n i q
  end_cut same =
      let at_end : q ≡ n = same_Some _ _ (sym moved ∙ ap (slice_get positions) same ∙ at_i) in
      record {
        one_less = cut_long;
        indices_are = sym (take-map (λ (x : Slot). x.index) n slots) ∙ sym (take-set-le n (indices slots) q i (omega (arith, at_end)));
        carries = λ p within x here.
            let apart = stays_apart p x within here in (
              x,
              (
                slice_get-take n slots p within ∙ here,
                record { near = λ k. x.near; index = inl ((λ k. x.index), (apart, omega (arith, known_within p x here, apart, same))) },
              ),
            );
      }

  module _ (inside : i < n) (t : ℤ) (near : slice_get nears n ≡ Some t) where
    there : slice_get slots q ≡ Some (slot t n)
    there = slot_there slots positions nears linked n q t moved near

    pub moved_within : q < n
    moved_within =
        let other : q ≢ n = λ e. omega (arith, ap (λ x. x.index) (same_Some _ _ (sym there ∙ ap (slice_get slots) e ∙ last)), inside) in
        omega (arith, slice_get_within slots q _ there, long, other)

    -- where the last entry came to another index, which its place is told
    pub told_cut : IsCut slots (slice_set (take n slots) q (slot t i)) n i q
    told_cut = record {
      one_less = length-set (take n slots) q (slot t i) ∙ cut_long;
      indices_are = indices-set (take n slots) q (slot t i) ∙ ap (λ xs. slice_set xs q i) (sym (take-map (λ (x : Slot). x.index) n slots))
          ∙ sym (take-set-lt n (indices slots) q i moved_within);
      carries = λ p within x here.
          elim (cases_eq p q) as (λ _. (x' : Slot) × ((slice_get (slice_set (take n slots) q (slot t i)) p ≡ Some x') × Carries n i x x')) [
            | inl e ↦
                let same : x ≡ slot t n = same_Some _ _ (sym here ∙ ap (slice_get slots) e ∙ there) in (
                  slot t i,
                  (
                    ap (slice_get (slice_set (take n slots) q (slot t i))) e ∙ slice_get-set_same (take n slots) q (slot t i) (omega (arith, moved_within, cut_long)),
                    record { near = sym (ap (λ y. y.near) same); index = inr ((λ k. i), (ap (λ y. y.index) same, inside)) },
                  ),
                )
            | inr apart ↦
                let other = stays_apart p x within here in
                let not_last : x.index ≢ n = λ e. apart (one_slot slots positions nears linked p q x (slot t n) here there e) in (
                  x,
                  (
                    slice_get-set_other (take n slots) q p _ apart ∙ slice_get-take n slots p within ∙ here,
                    record { near = λ k. x.near; index = inl ((λ k. x.index), (other, omega (arith, known_within p x here, not_last))) },
                  ),
                )
          ];
    }

  module _ (slots' : List Slot) (cut : IsCut slots slots' n i q) where
    -- heap and map still know each other
    pub dropped : (positions' : List ℕ) (nears' : List ℤ) → positions' ≡ take n (slice_set positions i q) → length nears' ≡ n →
        ((j : ℕ) → j ≢ i → j < n → slice_get nears' j ≡ slice_get nears j) → (i < n → slice_get nears' i ≡ slice_get nears n) → IsLinked slots' positions' nears'
    dropped positions' nears' told left others here = record {
      placed = rw (cut.indices_are, told)
          (inverses.dropped (indices slots) positions linked.placed n i q (long ∙ sym (length-map slots (λ x. x.index))) (index_there slots n (slot s i) last) moved);
      as_many = ap length told ∙ length-take-le n _ (omega (arith, length-set positions i q, many, long)) ∙ sym left;
      near = λ p x' is.
          let within : p < n = omega (arith, slice_get_within slots' p x' is, cut.one_less) in
          let x = there_is slots p (omega (arith, within, long)) in
          let kept = cut.carries p within x.0 x.1 in
          let same : kept.0 ≡ x' = same_Some _ _ (sym kept.1.0 ∙ is) in
          let carries = subst (Carries n i x.0) same kept.1.1 in
          seen_alike (slice_get nears) (slice_get nears') n i others here x.0 x' carries ∙ linked.near p x.0 x.1 ∙ ap (λ y. Some y) (sym carries.near);
    }

    -- and at each place that stays stands what stood there
    pub dropped_queue : (pairs pairs' : List Scored) → ((j : ℕ) → j ≢ i → j < n → get_or pairs' j nobody ≡ get_or pairs j nobody) →
        (i < n → get_or pairs' i nobody ≡ get_or pairs n nobody) → (m : ℕ) (d : Scored) → m < n → get_or (scored_slots pairs' slots') m d ≡ get_or (scored_slots pairs slots) m d
    dropped_queue pairs pairs' others here m d within =
        let x = there_is slots m (omega (arith, within, long)) in
        let kept = cut.carries m within x.0 x.1 in
        scored_there pairs' slots' m kept.0 d kept.1.0
        ∙ seen_alike (λ j. get_or pairs j nobody) (λ j. get_or pairs' j nobody) n i others here x.0 kept.0 kept.1.1
        ∙ sym (scored_there pairs slots m x.0 d x.1)
