-- The first place of a heap has the first of its pairs.
use Rattle.std.specs.Prelude.{List, Some, false, get_or, slice_get, ℤ, ℕ, ◌≡◌, ◌≢◌}
use Rattle.std.proofs.Common.{ap, arith, refl, subst, sym, true≢false, ◌∙◌}
use Rattle.std.proofs.ByRecursion.{All-get_or}
use Rattle.std.proofs.HeapSift.{greatest}
use Rattle.std.proofs.lemmas.List.{length-map}
use Rattle.std.proofs.lemmas.Map.Entries.{place_from_lookup}
use Rattle.std.proofs.lemmas.Option.{slice_get_within}
use Rattle.std.specs.BinaryHeap.{IsHeap, lt_by_cmp}
use Rattle.std.specs.FinMap.{IsAntisymmetric, get, int_cmp-IsAntisymmetric}
use Rattle.std.specs.Map.{lookup}
use Rattle.std.specs.Ordering.{int_cmp, is_lt, nat_cmp, ordering_reverse, ordering_then}
use Rattle.std.specs.Cmp.Lexicographic.{same_text, slice_cmp}
use Rattle.std.specs.declared.cmp.Ordering.TheVariants.{Equal, Greater, Less}
use Rattle.zq_posheap.proofs.DropLast.{many, nears}
use Rattle.zq_posheap.proofs.Entries.{bytes_antisymmetric, get-seen, has_text, seen_in, seen_is}
use Rattle.zq_posheap.proofs.Linked.{slot_at}
use Rattle.zq_posheap.proofs.Lists.{option_map_some, there_is}
use Rattle.zq_posheap.proofs.Ordered.{scored_total, turned_total}
use Rattle.zq_posheap.proofs.Scored.{pair_there, scored_there}
use Rattle.zq_posheap.specs.First.{IsFirst}
use Rattle.zq_posheap.specs.Order.{Scored, nobody, scored_at, scored_cmp, scored_slots, turned_cmp}
use Rattle.zq_posheap.specs.Links.{IsLinked}
use Rattle.zq_posheap.specs.Members.{Scores}
use Rattle.zq_posheap.specs.Moves.{pairs_of}
use Rattle.zq_posheap.specs.declared.heap.ScoredValue.{ScoredValue}
use Rattle.zq_posheap.specs.declared.heap.Slot.{Slot}

-- pairs that tie are one
scored_antisymmetric : IsAntisymmetric scored_cmp
scored_antisymmetric x y tied =
    elim (int_cmp x.0 y.0) as (λ r. int_cmp x.0 y.0 ≡ r → ordering_then r (slice_cmp nat_cmp x.1 y.1) ≡ Equal → x ≡ y) [
      | Less ↦ λ p e. absurd (true≢false (ap is_lt e))
      | Equal ↦ λ p e k. (int_cmp-IsAntisymmetric x.0 y.0 p k, bytes_antisymmetric x.1 y.1 e k)
      | Greater ↦ λ p e. absurd (true≢false (ap is_lt (ap ordering_reverse e)))
    ] refl tied

-- a pair that is not after another, and is not it, is before it
pub before : (x y : Scored) → is_lt (scored_cmp y x) ≡ false → y ≢ x → scored_cmp x y ≡ Less
before x y after apart =
    elim (scored_cmp x y) as (λ r. scored_cmp x y ≡ r → r ≡ Less) [
      | Less ↦ λ e. refl
      | Equal ↦ λ e. absurd (apart (sym (scored_antisymmetric x y e)))
      | Greater ↦ λ e. absurd (true≢false (sym (ap is_lt (scored_total.antisymm y x ∙ ap ordering_reverse e)) ∙ after))
    ] refl

-- what is first stays first, however it is written
pub same_first : (m : Scores) (x y : ℤ) (a b : List ℕ) → x ≡ y → a ≡ b → IsFirst m (x, a) → IsFirst m (y, b)
same_first m x y a b q r first = subst (λ (t : ℤ × List ℕ). IsFirst m (t.0, t.1)) (λ k. (q k, r k)) first

module _ {V : Type 0} (es : List (List ℕ × ScoredValue V)) (slots : List Slot) (positions : List ℕ) (linked : IsLinked slots positions (nears es))
    (ordered : IsHeap turned_cmp (scored_slots (pairs_of es) slots)) where
  -- a pair that the scores have stands at a place
  pub stands : (pair : Scored) → get (seen_in (λ v. v.score) es) pair.1 ≡ Some pair.0 → (p : ℕ) × (x : Slot) × (slice_get slots p ≡ Some x) × (scored_at (pairs_of es) x ≡ pair)
  stands pair has =
      let w = option_map_some (λ v. v.score) (lookup (has_text pair.1) es) pair.0 (sym (get-seen (λ v. v.score) es pair.1) ∙ has) in
      let e = place_from_lookup (has_text pair.1) es w.0 w.1 in
      let p = there_is positions e.0 (omega (arith, slice_get_within es e.0 (e.1, w.0) e.2, many es, linked.as_many)) in
      let x = slot_at slots positions (nears es) linked e.0 p.0 p.1 in
      let is = ap (λ i. get_or (pairs_of es) i nobody) x.2 ∙ pair_there es e.0 (e.1, w.0) e.2 in
      (p.0, x.0, x.1, is ∙ (λ k. (w.2 k, sym (same_text pair.1 e.1 (sym e.3)) k)))

  pub first_is : (first : Slot) (key : List ℕ) (w : ScoredValue V) → slice_get slots 0 ≡ Some first → slice_get es first.index ≡ Some (key, w) →
      lookup (has_text key) es ≡ Some w → IsFirst (seen_in (λ v. v.score) es) (w.score, key)
  first_is first key w at_top entry found =
      let queue = scored_slots (pairs_of es) slots in
      let top : Scored = scored_at (pairs_of es) first in
      let is : top ≡ (w.score, key) = pair_there es first.index (key, w) entry in
      let bound = greatest turned_total queue top (sym (scored_there (pairs_of es) slots 0 first top at_top)) ordered in
      record {
        there = seen_is (λ v. v.score) es key w (sym found);
        before = λ pair has apart.
            let at = stands pair has in
            let within = slice_get_within slots at.0 at.1 at.2 in
            let after = All-get_or (λ y. lt_by_cmp turned_cmp top y ≡ false) queue at.0 top (omega (arith, within, length-map slots (scored_at (pairs_of es)))) bound in
            let there : get_or queue at.0 top ≡ pair = scored_there (pairs_of es) slots at.0 at.1 top at.2 ∙ at.3 in
            before (w.score, key) pair ((λ k. is_lt (scored_cmp (sym there k) (sym is k))) ∙ after) apart;
      }
