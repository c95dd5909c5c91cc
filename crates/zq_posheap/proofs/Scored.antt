-- What stands at a place of the heap.

use Rattle.std.specs.BinaryHeap.{IsHeap, lt_by_cmp}
use Rattle.std.specs.BinaryHeap.Sift.{ComparesAt, IsHeapWithHole}
use Rattle.std.proofs.lemmas.List.{get_or-set_other, get_or_append_left, length-append, length-map, map-append, map-set}
use Rattle.zq_posheap.proofs.Lists.{map_agree, mapped_at, set_agree}
use Rattle.zq_posheap.proofs.Ordered.{turned_total}
use Rattle.zq_posheap.proofs.Sifting.{hole_at_change, hole_at_end}
use Rattle.std.specs.Ordering.{is_lt}
use Rattle.std.proofs.lemmas.Option.{get_or_from_slice_get, same_Some, slice_get-map}
use Rattle.std.specs.Map.{keys_of}
use Rattle.std.specs.Prelude.{List, Some, [], ◌++◌, ◌∷◌, ◌+◌, ◌<◌, ℤ, suc, zero, get_or, length, slice_set, option_map, slice_get, ℕ, ◌≡◌, ◌≢◌, Bool}
use Rattle.indexmap.specs.Layout.{set_value_at}
use Rattle.zq_posheap.specs.Moves.{pairs_of}
use Rattle.zq_posheap.specs.declared.heap.ScoredValue.{ScoredValue}
use Rattle.zq_posheap.specs.declared.heap.Slot.{Slot}
use Rattle.std.proofs.Common.{◌∙◌, arith, sym, subst, ap, refl}
use Rattle.zq_posheap.specs.Order.{Scored, nobody, scored_at, scored_cmp, scored_slots, turned_cmp}

-- the member of a map's entry, among the members' bytes
pub text_there : {X : Type 0} (es : List (List ℕ × X)) (i : ℕ) (k : List ℕ) (v : X) → slice_get es i ≡ Some (k, v) → k ≡ get_or (keys_of es) i []
text_there es i k v at =
    let key : slice_get (keys_of es) i ≡ Some k = slice_get-map (λ e. e.0) es i ∙ ap (option_map (λ e. e.0)) at in
    sym (get_or_from_slice_get (keys_of es) i k [] key)

-- a map's entry, among the pairs
pub pair_there : {V : Type 0} (es : List (List ℕ × ScoredValue V)) (i : ℕ) (e : List ℕ × ScoredValue V) → slice_get es i ≡ Some e → get_or (pairs_of es) i nobody ≡ (e.1.score, e.0)
pair_there es i e at = get_or_from_slice_get (pairs_of es) i (e.1.score, e.0) nobody (mapped_at (λ e. (e.1.score, e.0)) es i e at)

-- the pairs, once an entry has another value
pub set_value_at-pairs : {V : Type 0} (es : List (List ℕ × ScoredValue V)) (i : ℕ) (e : List ℕ × ScoredValue V) (w : ScoredValue V) → slice_get es i ≡ Some e →
    pairs_of (set_value_at es i w) ≡ slice_set (pairs_of es) i (w.score, e.0)
set_value_at-pairs [] i e w at = refl
set_value_at-pairs (x ∷ es) zero e w at = λ k. (w.score, (same_Some x e at k).0) ∷ pairs_of es
set_value_at-pairs (x ∷ es) (suc i) e w at = ap (λ pairs. (x.1.score, x.0) ∷ pairs) (set_value_at-pairs es i e w at)

-- what stands at a place of the heap
pub scored_there : (pairs : List Scored) (slots : List Slot) (p : ℕ) (s : Slot) (d : Scored) → slice_get slots p ≡ Some s → get_or (scored_slots pairs slots) p d ≡ scored_at pairs s
scored_there pairs slots p s d at = get_or_from_slice_get (scored_slots pairs slots) p (scored_at pairs s) d (slice_get-map (scored_at pairs) slots p ∙ ap (option_map (scored_at pairs)) at)

-- how two slots compare is how their places do
pub compares : (pairs : List Scored) (slots : List Slot) (a b : ℕ) (x y : Slot) (r : Bool) → slice_get slots a ≡ Some x → slice_get slots b ≡ Some y →
    r ≡ is_lt (scored_cmp (scored_at pairs x) (scored_at pairs y)) → ComparesAt turned_cmp (scored_slots pairs slots) b a r
compares pairs slots a b x y r at_a at_b is d = rw (scored_there pairs slots a x d at_a, scored_there pairs slots b y d at_b, is) refl

module _ (pairs : List Scored) (slots : List Slot) (n : ℕ) (long : n ≡ length slots) (ordered : IsHeap turned_cmp (scored_slots pairs slots)) where
  same_long : n ≡ length (scored_slots pairs slots)
  same_long = long ∙ sym (length-map slots (scored_at pairs))

  -- another slot at a place, and another pair at its index, which no other slot has, leave a hole there
  pub hole_rescored : (pairs' : List Scored) (p i : ℕ) (x : Slot) (pair : Scored) → pairs' ≡ slice_set pairs i pair →
      ((q : ℕ) (s : Slot) → slice_get slots q ≡ Some s → q ≢ p → s.index ≢ i) →
      IsHeapWithHole (lt_by_cmp turned_cmp) (scored_slots pairs' (slice_set slots p x)) p n
  hole_rescored pairs' p i x pair is others =
      let agree = set_agree (scored_at pairs') (scored_at pairs) slots p (scored_at pairs' x)
      (λ q s here apart. ap (λ ps. get_or ps s.index nobody) is ∙ get_or-set_other pairs i s.index pair nobody (others q s here apart)) in
      subst (λ xs. IsHeapWithHole (lt_by_cmp turned_cmp) xs p n) (sym (map-set (scored_at pairs') slots p x ∙ agree))
      (hole_at_change turned_cmp turned_total (scored_slots pairs slots) p n (scored_at pairs' x) same_long ordered)

  -- one more member leaves a hole at the last place
  pub hole_added : (pairs' : List Scored) (slots' : List Slot) (pair : Scored) (s : ℤ) → pairs' ≡ pairs ++ pair ∷ [] →
      slots' ≡ slots ++ record { near = s; index = n } ∷ [] → ((p : ℕ) (x : Slot) → slice_get slots p ≡ Some x → x.index < length pairs) →
      IsHeapWithHole (lt_by_cmp turned_cmp) (scored_slots pairs' slots') n (length slots')
  hole_added pairs' slots' pair s more_pairs more_slots within =
      let new : Slot = record { near = s; index = n } in
      let agree = map_agree (scored_at (pairs ++ pair ∷ [])) (scored_at pairs) slots
      (λ p x here. get_or_append_left pairs (pair ∷ []) nobody x.index (within p x here)) in
      let more : length slots' ≡ n + 1 = omega (arith, ap length more_slots, length-append slots (new ∷ []), long) in
      let queue : scored_slots pairs' slots' ≡ scored_slots pairs slots ++ scored_at (pairs ++ pair ∷ []) new ∷ [] =
      (λ k. scored_slots (more_pairs k) (more_slots k)) ∙ map-append (scored_at (pairs ++ pair ∷ [])) slots (new ∷ [])
      ∙ ap (λ xs. xs ++ scored_at (pairs ++ pair ∷ []) new ∷ []) agree in
      subst (λ xs. IsHeapWithHole (lt_by_cmp turned_cmp) xs n (length slots')) (sym queue)
      (hole_at_end turned_cmp (scored_slots pairs slots) n (length slots') (scored_at (pairs ++ pair ∷ []) new) same_long more ordered)
