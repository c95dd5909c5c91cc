-- The head of a map's pairs in order is the first of its pairs.
use Rattle.std.specs.Prelude.{IfNone, IfSome, IsNone, List, None, Option, Some, [], get_or, length, option_map, slice_get, suc, zero, ℕ, ℤ, ◌<◌, ◌↔◌, ◌≡◌, ◌≢◌, ◌∷◌}
use Rattle.std.proofs.Common.{ap, arith, refl, subst, sym, true≢false, ◌∙◌}
use Rattle.std.proofs.lemmas.Cmp.{nat_list_cmp_total}
use Rattle.std.proofs.lemmas.List.{get_or_default}
use Rattle.std.proofs.lemmas.Map.Keys.{Less-from_sorted}
use Rattle.std.proofs.lemmas.Option.{none-some, slice_get-get_or}
use Rattle.std.specs.Borrow.{Bor}
use Rattle.std.specs.Cmp.Lexicographic.{slice_cmp}
use Rattle.std.specs.FinMap.{empty, get, get-empty, same_map}
use Rattle.std.specs.Ordering.{nat_cmp}
use Rattle.std.specs.declared.cmp.Ordering.TheVariants.{Less}
use Rattle.zq_posheap.proofs.Entries.{bytes_antisymmetric}
use Rattle.zq_posheap.proofs.Ordered.{no_cycle}
use Rattle.zq_posheap.specs.First.{IsFirst}
use Rattle.zq_posheap.specs.InOrder.{ListsInOrder}
use Rattle.zq_posheap.specs.Listing.{lent_pair}
use Rattle.zq_posheap.specs.Order.{Scored, scored_cmp}
use Rattle.zq_posheap.specs.Members.{Entries, Scores, scores_of}
use Rattle.zq_posheap.proofs.ScoresOf.{get-scores_of}

head_is_first : (scores : Scores) (pairs : List Scored) (first : Scored) → IsFirst scores first → ListsInOrder scores pairs → slice_get pairs 0 ≡ Some first
head_is_first scores pairs first is order = let at = (order.lists.has first).1 is.there in by at.0 at.1 at.2
  where
    by : (i : ℕ) → i < length pairs → get_or pairs i first ≡ first → slice_get pairs 0 ≡ Some first
    by zero within here = slice_get-get_or pairs 0 first within ∙ ap (λ x. Some x) here
    by (suc i) within here =
        let head = get_or pairs 0 first in
        let less : scored_cmp head first ≡ Less = ap (scored_cmp head) (sym here) ∙ Less-from_sorted scored_cmp pairs 0 (suc i) first order.rises (omega arith) within in
        let apart : head ≢ first = λ same. no_cycle head head (ap (scored_cmp head) same ∙ less) (ap (scored_cmp head) same ∙ less) in
        let there = (order.lists.has head).0 (0, omega arith, get_or_default pairs 0 head first (omega arith)) in
        absurd (no_cycle head first less (is.before head there apart))

no_head : (pairs : List Scored) → ListsInOrder empty pairs → slice_get pairs 0 ≡ None
no_head [] order = refl
no_head (x ∷ xs) order = absurd (none-some x.0 (sym (get-empty (slice_cmp nat_cmp) x.1) ∙ (order.lists.has x).0 (0, omega arith, refl)))

no_scores : {V : Type 0} (held : Entries V) → held ≡ empty → scores_of held ≡ empty
no_scores held none = same_map nat_list_cmp_total bytes_antisymmetric (scores_of held) empty
    (λ q. get-scores_of held q ∙ ap (option_map (λ e. e.0)) (ap (λ m. get m q) none ∙ get-empty (slice_cmp nat_cmp) q) ∙ sym (get-empty (slice_cmp nat_cmp) q))

-- what the first pair, or none, says of the map
pub none_there : {V : Type 0} (held : Entries V) (first : Option (ℤ × Bor (List ℕ))) → IfNone first (held ≡ empty) → IfSome first (λ pair. IsFirst (scores_of held) (lent_pair pair)) →
    IsNone first ↔ (held ≡ empty)
none_there held None none some = (λ _. none, λ _. refl)
none_there held (Some pair) none some = (
  λ no. absurd (true≢false no),
  λ is. absurd (none-some pair.0 (sym (get-empty (slice_cmp nat_cmp) pair.1.now) ∙ ap (λ m. get m pair.1.now) (sym (no_scores held is)) ∙ some.there)),
)

pub head_is : {V : Type 0} (held : Entries V) (first : Option (ℤ × Bor (List ℕ))) → IfNone first (held ≡ empty) → IfSome first (λ pair. IsFirst (scores_of held) (lent_pair pair)) →
    (pairs : List Scored) → ListsInOrder (scores_of held) pairs → slice_get pairs 0 ≡ option_map lent_pair first
head_is held None none some pairs order = no_head pairs (subst (λ m. ListsInOrder m pairs) (no_scores held none) order)
head_is held (Some pair) none some pairs order = head_is_first (scores_of held) pairs (lent_pair pair) some order
