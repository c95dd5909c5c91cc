-- Pairs before and after one that is sought.
use Rattle.std.proofs.Common.{◌≡◌, ℕ, ◌+◌, ◌<◌, ◌≤◌, true, false, List, [], ◌∷◌, ◌++◌, length, get_or, refl, sym, ap, subst, ◌∙◌, arith, length-append, true≢false}
use Rattle.std.specs.List.Sorted.{IsStrictlySortedBy}
use Rattle.std.specs.Ordering.{is_gt, is_lt, ordering_reverse}
use Rattle.std.specs.declared.cmp.Ordering.{Ordering}
use Rattle.std.specs.declared.cmp.Ordering.TheVariants.{Equal, Greater, Less}
use Rattle.std.proofs.lemmas.List.{get_or-append-add, get_or_append_left}
use Rattle.std.proofs.lemmas.Map.Keys.{Less-from_sorted}
use Rattle.zq_ranked.proofs.All.{all_front}
use Rattle.zq_ranked.proofs.Sorted.{by_order, same_default, scored_antisymmetric, scored_total}
use Rattle.zq_ranked.specs.Order.{AreAfter, AreBefore, Scored, scored_cmp}

-- the first of two lists that are in order
pub sorted_front : (l s : List Scored) → IsStrictlySortedBy scored_cmp (l ++ s) → IsStrictlySortedBy scored_cmp l
unfolding IsStrictlySortedBy
sorted_front [] s h = tt
sorted_front (x ∷ l) s h = (all_front (λ y. scored_cmp x y ≡ Less) l s h.0, sorted_front l s h.1)

-- the second of them
pub sorted_back : (l s : List Scored) → IsStrictlySortedBy scored_cmp (l ++ s) → IsStrictlySortedBy scored_cmp s
unfolding IsStrictlySortedBy
sorted_back [] s h = h
sorted_back (x ∷ l) s h = sorted_back l s h.1

-- the middle of three
pub sorted_middle : (l b r : List Scored) → IsStrictlySortedBy scored_cmp (l ++ (b ++ r)) → IsStrictlySortedBy scored_cmp b
sorted_middle l b r h = sorted_front b r (sorted_back l (b ++ r) h)

-- a pair after another has that one before it
turned : (x t : Scored) → scored_cmp x t ≡ Greater → scored_cmp t x ≡ Less
turned x t e = scored_total.antisymm t x ∙ ap ordering_reverse e

module _ (xs : List Scored) (s : IsStrictlySortedBy scored_cmp xs) (t : Scored) (i : ℕ) (c : Scored) (h : i < length xs) where
  -- from a pair that comes after t on, all do
  from_after : scored_cmp t (get_or xs i c) ≡ Less → (k : ℕ) (d : Scored) → i ≤ k → k < length xs → scored_cmp t (get_or xs k d) ≡ Less
  from_after e k d a b = by_order i k
      (λ j. scored_total.trans t (get_or xs i c) (get_or xs k d) e (subst (λ y. scored_cmp y (get_or xs k d) ≡ Less) (same_default xs i d c h) (Less-from_sorted scored_cmp xs i k d s j b)))
      (λ j. subst (λ n. scored_cmp t (get_or xs n d) ≡ Less) j (subst (λ y. scored_cmp t y ≡ Less) (same_default xs i c d h) e)) a

  -- up to a pair that comes before t, all do
  to_before : scored_cmp (get_or xs i c) t ≡ Less → (k : ℕ) (d : Scored) → k ≤ i → scored_cmp (get_or xs k d) t ≡ Less
  to_before e k d a = by_order k i
      (λ j. scored_total.trans (get_or xs k d) (get_or xs i c) t (subst (λ y. scored_cmp (get_or xs k d) y ≡ Less) (same_default xs i d c h) (Less-from_sorted scored_cmp xs k i d s j h)) e)
      (λ j. subst (λ n. scored_cmp (get_or xs n d) t ≡ Less) (sym j) (subst (λ y. scored_cmp y t ≡ Less) (same_default xs i c d h) e)) a

  -- past a pair that does not come before t, all come after it
  past : (o : Ordering) → scored_cmp (get_or xs i c) t ≡ o → is_lt o ≡ false → (k : ℕ) (d : Scored) → i < k → k < length xs → scored_cmp t (get_or xs k d) ≡ Less
  past Less e n k d a b = absurd (true≢false n)
  past Equal e n k d a b = subst (λ y. scored_cmp y (get_or xs k d) ≡ Less) (same_default xs i d c h ∙ scored_antisymmetric (get_or xs i c) t e) (Less-from_sorted scored_cmp xs i k d s a b)
  past Greater e n k d a b = from_after (turned (get_or xs i c) t e) k d (omega arith) b

  -- short of a pair that does not come after t, all come before it
  short : (o : Ordering) → scored_cmp (get_or xs i c) t ≡ o → is_gt o ≡ false → (k : ℕ) (d : Scored) → k < i → scored_cmp (get_or xs k d) t ≡ Less
  short Less e n k d a = to_before e k d (omega arith)
  short Equal e n k d a = subst (λ y. scored_cmp (get_or xs k d) y ≡ Less) (same_default xs i d c h ∙ scored_antisymmetric (get_or xs i c) t e) (Less-from_sorted scored_cmp xs k i d s a h)
  short Greater e n k d a = absurd (true≢false n)

greater_from : (o : Ordering) → is_gt o ≡ true → o ≡ Greater
greater_from Less h = absurd (true≢false (sym h))
greater_from Equal h = absurd (true≢false (sym h))
greater_from Greater h = refl

less_from : (o : Ordering) → is_lt o ≡ true → o ≡ Less
less_from Less h = refl
less_from Equal h = absurd (true≢false (sym h))
less_from Greater h = absurd (true≢false (sym h))

module _ (t : Scored) (l b r : List Scored) (c : Scored) (s : IsStrictlySortedBy scored_cmp (l ++ (b ++ r))) (filled : 0 < length b) where
  seam : (d : Scored) → get_or (l ++ (b ++ r)) (length l) d ≡ get_or b 0 d
  seam d =
      let e : length l ≡ length l + 0 = omega arith in
      subst (λ n. get_or (l ++ (b ++ r)) n d ≡ get_or b 0 d) (sym e) (get_or-append-add l (b ++ r) 0 d ∙ get_or_append_left b r d 0 filled)

  -- where the first of the middle pairs comes after t, so do those after it
  pub after_first : is_gt (scored_cmp (get_or b 0 c) t) ≡ true → AreAfter t (b ++ r)
  after_first e =
      let m : 0 < length (b ++ r) = omega (arith, filled, length-append b r) in
      let f : scored_cmp t (get_or (b ++ r) 0 c) ≡ Less = rw (get_or_append_left b r c 0 filled) (turned (get_or b 0 c) t (greater_from _ e)) in
      record { each = λ k d h. from_after (b ++ r) (sorted_back l (b ++ r) s) t 0 c m f k d (omega arith) h }

  -- where it does not, those before it come before t
  pub before_first : is_gt (scored_cmp (get_or b 0 c) t) ≡ false → AreBefore t l
  before_first e =
      let m : length l < length (l ++ (b ++ r)) = omega (arith, filled, length-append l (b ++ r), length-append b r) in
      record { each = λ k d h. rw (← get_or_append_left l (b ++ r) d k h) (short (l ++ (b ++ r)) s t (length l) c m _ (ap (λ y. scored_cmp y t) (seam c)) e k d h) }
