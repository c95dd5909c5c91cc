-- What a list of pairs in order keeps.
use Rattle.std.proofs.Common.{FitsSigned, IsTrue, ◌↔◌, length-append, length-drop, ◌≡◌, ℕ, ◌+◌, ◌<◌, ◌≤◌, true, false, cond, List, [], ◌∷◌, ◌++◌, length, get_or, drop, suc, zero, refl, sym, ap, subst, ◌∙◌, arith, true≢false}
use Rattle.std.specs.Cmp.{IsTotalOrder}
use Rattle.std.specs.Cmp.Lexicographic.{slice_cmp}
use Rattle.std.specs.FinMap.{IsAntisymmetric, int_cmp-IsAntisymmetric, nat_cmp-IsAntisymmetric, slice_cmp-IsAntisymmetric}
use Rattle.std.specs.List.{AllByRecursion, Contains, insert, remove}
use Rattle.std.specs.List.Sorted.{IsPartitionedBy, IsStrictlySortedBy}
use Rattle.std.specs.Int.{w128}
use Rattle.std.specs.Ordering.{int_cmp, is_eq, is_lt, nat_cmp, ordering_reverse, ordering_then}
use Rattle.std.specs.declared.cmp.Ordering.{Ordering}
use Rattle.std.specs.declared.cmp.Ordering.TheVariants.{Equal, Greater, Less}
use Rattle.std.proofs.Math.Dec.{ltb}
use Rattle.std.proofs.lemmas.Bool.{ltb-false, ltb-true}
use Rattle.std.proofs.lemmas.Cmp.{int_cmp_total, nat_list_cmp_total, on_total, then_total, tied_itself}
use Rattle.std.proofs.lemmas.List.{get_or-drop, get_or_append_left}
use Rattle.std.proofs.lemmas.List.Sums.{sum_by-cons}
use Rattle.std.proofs.lemmas.Map.Keys.{Less-from_sorted}
use Rattle.zq_ranked.proofs.All.{all_insert, all_remove}
use Rattle.zq_ranked.proofs.Ranks.{count_at, none_after}
use Rattle.zq_ranked.specs.Order.{IsRanking, Scored, goes_before, rank_of, scored_cmp}

pub scored_total : IsTotalOrder scored_cmp
scored_total = then_total (on_total (λ x. x.0) int_cmp_total) (on_total (λ x. x.1) nat_list_cmp_total)

-- pairs that tie are one
pub scored_antisymmetric : IsAntisymmetric scored_cmp
scored_antisymmetric x y tied =
    elim (int_cmp x.0 y.0) as (λ r. int_cmp x.0 y.0 ≡ r → ordering_then r (slice_cmp nat_cmp x.1 y.1) ≡ Equal → x ≡ y) [
      | Less ↦ λ p e. absurd (true≢false (ap is_lt e))
      | Equal ↦ λ p e k. (int_cmp-IsAntisymmetric x.0 y.0 p k, slice_cmp-IsAntisymmetric nat_cmp-IsAntisymmetric x.1 y.1 e k)
      | Greater ↦ λ p e. absurd (true≢false (ap is_lt (ap ordering_reverse e)))
    ] refl tied

-- a pair that is not after another, and is not it, is before it
before : (x y : Scored) → is_lt (scored_cmp y x) ≡ false → (y ≡ x → ⊥) → scored_cmp x y ≡ Less
before x y after apart =
    elim (scored_cmp x y) as (λ r. scored_cmp x y ≡ r → r ≡ Less) [
      | Less ↦ λ e. refl
      | Equal ↦ λ e. absurd (apart (sym (scored_antisymmetric x y e)))
      | Greater ↦ λ e. absurd (true≢false (sym (ap is_lt (scored_total.antisymm y x ∙ ap ordering_reverse e)) ∙ after))
    ] refl

less_from : (o : Ordering) → is_lt o ≡ true → o ≡ Less
less_from Less h = refl
less_from Equal h = absurd (true≢false (sym h))
less_from Greater h = absurd (true≢false (sym h))

-- no pair goes before one that it comes after
pub not_back : (x y : Scored) → scored_cmp x y ≡ Less → is_lt (scored_cmp y x) ≡ false
not_back x y h = ap is_lt (scored_total.antisymm y x ∙ ap ordering_reverse h)

-- what comes before a pair that goes before another goes before that one too
before_both : (x y t : Scored) → scored_cmp x y ≡ Less → goes_before t y ≡ true → goes_before t x ≡ true
before_both x y t h e = ap is_lt (scored_total.trans x y t h (less_from _ e))

-- two numbers of which one is not above the other
pub by_order : {G : Type 0} (i j : ℕ) → (i < j → G) → (i ≡ j → G) → i ≤ j → G
by_order {G} i j below same h = elim (ltb i j) as (λ b. ltb i j ≡ b → G) [
  | true ↦ λ e. below (ltb-true i j e)
  | false ↦ λ e. let k : j ≤ i = ltb-false i j e in same (omega arith)
] refl

-- an item that is there is the same whatever stands for one that is not
pub same_default : {X : Type 0} (xs : List X) (k : ℕ) (c d : X) → k < length xs → get_or xs k c ≡ get_or xs k d
same_default [] k c d h = absurd (omega arith)
same_default (x ∷ xs) zero c d h = refl
same_default (x ∷ xs) (suc k) c d h = same_default xs k c d (omega arith)

module _ (xs : List Scored) (s : IsStrictlySortedBy scored_cmp xs) (t : Scored) where
  -- a list in order is cut at each pair
  pub sorted_cut : IsPartitionedBy (goes_before t) xs
  sorted_cut = λ i j d a b e. by_order i j (λ h. before_both _ _ t (Less-from_sorted scored_cmp xs i j d s h b) e) (λ h. subst (λ n. goes_before t (get_or xs n d) ≡ true) (sym h) e) a

  -- a pair stands at its rank
  pub rank_there : (k : ℕ) → k < length xs → get_or xs k t ≡ t → rank_of t xs ≡ k
  rank_there k h e = count_at (goes_before t) xs k (omega arith)
      (λ i d a. ap is_lt (rw (same_default xs k d t h ∙ e) at (Less-from_sorted scored_cmp xs i k d s a h)))
      (λ i d a b. by_order k i (λ c. not_back t _ (rw (same_default xs k d t h ∙ e) at (Less-from_sorted scored_cmp xs k i d s c b))) (λ c. subst (λ n. goes_before t (get_or xs n d) ≡ false) c (rw (same_default xs k d t h ∙ e) (ap is_lt (tied_itself scored_total t)))) a)

-- what follows from P holds of all items where P does
all_map : {X : Type 0} (P Q : X → Type 0) → ((x : X) → P x → Q x) → (xs : List X) → AllByRecursion P xs → AllByRecursion Q xs
all_map P Q f [] h = tt
all_map P Q f (x ∷ xs) h = (f x h.0, all_map P Q f xs h.1)

-- one more pair goes before another
rank_more : (t x : Scored) (xs : List Scored) → goes_before t x ≡ true → rank_of t (x ∷ xs) ≡ suc (rank_of t xs)
rank_more t x xs e =
    let n = sum_by-cons (λ y. cond (goes_before t y) 1 0) x xs in
    let k : cond {A = ℕ} (goes_before t x) 1 0 ≡ 1 = ap (λ b. cond b 1 0) e in
    omega (arith, n, k)

-- a list in order stays so with a pair at its rank that was not there
pub sorted_insert : (t : Scored) (xs : List Scored) → IsStrictlySortedBy scored_cmp xs → (Contains xs t → ⊥) → IsStrictlySortedBy scored_cmp (insert xs (rank_of t xs) t)
unfolding IsStrictlySortedBy
sorted_insert t [] s absent = (tt, tt)
sorted_insert t (x ∷ xs) s absent =
    let P : ℕ → Type 0 = λ n. IsStrictlySortedBy scored_cmp (insert (x ∷ xs) n t) in
    elim (goes_before t x) as (λ b. goes_before t x ≡ b → P (rank_of t (x ∷ xs))) [
      | true ↦ λ e. subst P (sym (rank_more t x xs e)) (all_insert (λ y. scored_cmp x y ≡ Less) xs (rank_of t xs) t s.0 (less_from _ e), sorted_insert t xs s.1 (λ c. absent (suc c.0, omega (arith, c.1), c.2)))
      | false ↦ λ e.
          let first = before t x e (λ same. absent (0, omega arith, same)) in
          let n = none_after (goes_before t) (x ∷ xs) x (sorted_cut (x ∷ xs) s t) e (omega arith) in
          subst P (sym n) ((first, all_map _ _ (λ y h. scored_total.trans t x y first h) xs s.0), s)
    ] refl

-- a list in order stays so without a pair
pub sorted_remove : (xs : List Scored) (i : ℕ) → IsStrictlySortedBy scored_cmp xs → IsStrictlySortedBy scored_cmp (remove xs i)
unfolding IsStrictlySortedBy
sorted_remove [] zero s = tt
sorted_remove [] (suc i) s = tt
sorted_remove (x ∷ xs) zero s = s.1
sorted_remove (x ∷ xs) (suc i) s = (all_remove (λ y. scored_cmp x y ≡ Less) xs i s.0, sorted_remove xs i s.1)

-- no pairs are in order
pub none_ranked : IsRanking []
unfolding IsStrictlySortedBy
none_ranked = record { sorted = tt; in_range = tt }

-- a pair that was not there is put at its rank
pub ranked_insert : (xs : List Scored) (place : ℕ) (t x : Scored) → IsRanking xs → place ≡ rank_of t xs → x ≡ t → (Contains xs t → ⊥) → FitsSigned w128 t.0 → IsRanking (insert xs place x)
ranked_insert xs place t x r p e absent fits =
    rw (p, e) (record { sorted = sorted_insert t xs r.sorted absent; in_range = all_insert (λ pair. FitsSigned w128 pair.0) xs (rank_of t xs) t r.in_range fits })

-- a pair is taken out
pub ranked_remove : (xs : List Scored) (place : ℕ) → IsRanking xs → IsRanking (remove xs place)
ranked_remove xs place r = record { sorted = sorted_remove xs place r.sorted; in_range = all_remove (λ pair. FitsSigned w128 pair.0) xs place r.in_range }

pub equal_from : (o : Ordering) → IsTrue (is_eq o) → o ≡ Equal
equal_from Less h = absurd (true≢false (sym h))
equal_from Equal h = refl
equal_from Greater h = absurd (true≢false (sym h))

module _ (xs : List Scored) (n : ℕ) (t : Scored) (s : IsStrictlySortedBy scored_cmp xs) (p : n ≡ rank_of t xs) where
  -- a pair is there exactly where what stands at its rank is it
  pub stands_there : (b rest : List Scored) (x : Scored) → drop n xs ≡ b ++ rest → 0 < length b → x ≡ get_or b 0 t → (IsTrue (is_eq (scored_cmp x t)) ↔ Contains xs t)
  stands_there b rest x e h f =
      let within : n < length xs = omega (arith, length-drop n xs, ap length e, length-append b rest) in
      let zero_more : n ≡ n + 0 = omega arith in
      let here : get_or xs n t ≡ x = ap (λ k. get_or xs k t) zero_more ∙ sym (get_or-drop n xs 0 t) ∙ ap (λ l. get_or l 0 t) e ∙ get_or_append_left b rest t 0 h ∙ sym f in (
        λ k. (n, within, here ∙ scored_antisymmetric x t (equal_from _ k)),
        λ c.
            let same : x ≡ t = sym here ∙ ap (λ k. get_or xs k t) (p ∙ rank_there xs s t c.0 c.1 c.2) ∙ c.2 in
            subst (λ y. is_eq (scored_cmp y t) ≡ true) (sym same) (ap is_eq (tied_itself scored_total t)),
      )

  -- past the last place no pair stands
  pub stands_nowhere : length xs ≤ n → Contains xs t → ⊥
  stands_nowhere h c = omega (arith, rank_there xs s t c.0 c.1 c.2, c.1, p)
