-- The pairs of children, one child after another.
use Rattle.std.proofs.Common.{◌≡◌, ℕ, ◌+◌, ◌-◌, ◌<◌, ◌≤◌, true, false, List, [], ◌∷◌, ◌++◌, length, take, drop, get_or, set, suc, refl, sym, ap, subst, ◌∙◌, arith, append_assoc, length-append, length-drop}
use Rattle.std.specs.List.{AllByRecursion, insert, remove}
use Rattle.std.specs.List.Sorted.{IsStrictlySortedBy}
use Rattle.std.specs.Ordering.{is_gt}
use Rattle.std.proofs.lemmas.List.{append-nil, drop-append-le, drop_more, drop-set, drop-set-lt, take_all, take-append-drop, take-append-le, take_more, take_more_set, take-set}
use Rattle.zq_ranked.proofs.All.{all_at}
use Rattle.zq_ranked.proofs.Around.{after_first, before_first, sorted_middle}
use Rattle.zq_ranked.proofs.Sorted.{by_order}
use Rattle.zq_ranked.proofs.Parts.{drop_second, take_second}
use Rattle.zq_ranked.specs.Order.{AreAfter, AreBefore, Scored, scored_cmp}
use Rattle.zq_ranked.specs.Shape.{IsChild, joined}
use Rattle.zq_ranked.specs.declared.child.Child.{Child}

-- those of two lists of children
pub joined_append : (xs ys : List Child) → joined (xs ++ ys) ≡ joined xs ++ joined ys
joined_append [] ys = refl
joined_append (x ∷ xs) ys = ap (λ p. x.node.0 ++ p) (joined_append xs ys) ∙ sym (append_assoc x.node.0 (joined xs) (joined ys))

-- those before a place and from it onward
pub joined_parts : (xs : List Child) (i : ℕ) → joined xs ≡ joined (take i xs) ++ joined (drop i xs)
joined_parts xs i = ap joined (sym (take-append-drop i xs)) ∙ joined_append (take i xs) (drop i xs)

-- those of the first children are no more than those of all
pub length_joined_take : (xs : List Child) (i : ℕ) → length (joined (take i xs)) ≤ length (joined xs)
length_joined_take xs i = omega (arith, ap length (joined_parts xs i), length-append (joined (take i xs)) (joined (drop i xs)))

module _ (xs : List Child) (i : ℕ) (c : Child) (h : i < length xs) (e : c ≡ get_or xs i c) where
  -- the children from one onward
  pub from_child : drop i xs ≡ c ∷ drop (i + 1) xs
  from_child = drop_more xs i c h ∙ ap (λ x. x ∷ drop (i + 1) xs) (sym e)

  -- the pairs before a child, of it, and after it
  pub joined_at : joined xs ≡ joined (take i xs) ++ (c.node.0 ++ joined (drop (i + 1) xs))
  joined_at = joined_parts xs i ∙ ap (λ p. joined (take i xs) ++ joined p) from_child

  -- up to a child and of it
  pub joined_up_to : joined (take (i + 1) xs) ≡ joined (take i xs) ++ c.node.0
  joined_up_to = ap joined (take_more xs i c h) ∙ joined_append (take i xs) (get_or xs i c ∷ []) ∙ ap (λ p. joined (take i xs) ++ p) (append-nil (get_or xs i c).node.0 ∙ ap (λ x. x.node.0) (sym e))

  -- what is known of all children is known of one
  pub child_at : (height : ℕ) → AllByRecursion (IsChild height) xs → IsChild height c
  child_at height a = subst (IsChild height) (sym e) (all_at (IsChild height) xs i c a h)

  -- a child more was counted
  pub counted_more : (height n : ℕ) → AllByRecursion (IsChild height) xs → n ≡ length (joined (take i xs)) → n + c.len ≡ length (joined (take (i + 1) xs))
  counted_more height n a k = omega (arith, k, (child_at height a).len, ap length joined_up_to, length-append (joined (take i xs)) c.node.0)

  -- a child's pairs are no more than all
  pub length_at : length c.node.0 ≤ length (joined xs)
  length_at = omega (arith, ap length joined_at, length-append (joined (take i xs)) (c.node.0 ++ joined (drop (i + 1) xs)), length-append c.node.0 (joined (drop (i + 1) xs)))

  -- a child's pairs are in order where all are
  pub sorted_at : IsStrictlySortedBy scored_cmp (joined xs) → IsStrictlySortedBy scored_cmp c.node.0
  sorted_at s = sorted_middle (joined (take i xs)) c.node.0 (joined (drop (i + 1) xs)) (subst (λ p. IsStrictlySortedBy scored_cmp p) joined_at s)

  module _ (t d : Scored) (filled : 0 < length c.node.0) (s : IsStrictlySortedBy scored_cmp (joined xs)) where
    sorted : IsStrictlySortedBy scored_cmp (joined (take i xs) ++ (c.node.0 ++ joined (drop (i + 1) xs)))
    sorted = subst (λ p. IsStrictlySortedBy scored_cmp p) joined_at s

    -- where its first pair comes after another, so do those after it
    pub after_child : is_gt (scored_cmp (get_or c.node.0 0 d) t) ≡ true → AreAfter t (joined (drop i xs))
    after_child g = subst (λ p. AreAfter t (joined p)) (sym from_child) (after_first t (joined (take i xs)) c.node.0 (joined (drop (i + 1) xs)) d sorted filled g)

    -- where it does not, the pairs before the child come before
    pub before_child : is_gt (scored_cmp (get_or c.node.0 0 d) t) ≡ false → AreBefore t (joined (take i xs))
    before_child g = before_first t (joined (take i xs)) c.node.0 (joined (drop (i + 1) xs)) d sorted filled g

-- children have pairs
pub some_pairs : (height : ℕ) (xs : List Child) → AllByRecursion (IsChild height) xs → 0 < length xs → 0 < length (joined xs)
some_pairs height [] a h = h
some_pairs height (x ∷ xs) a h = omega (arith, a.0.filled, length-append x.node.0 (joined xs))

-- no children have no pairs
pub no_pairs : (xs : List Child) → length xs ≡ 0 → joined xs ≡ []
no_pairs [] h = refl
no_pairs (x ∷ xs) h = absurd (omega (arith, h))

-- without pairs there are no children
pub no_children : (height : ℕ) (xs : List Child) → AllByRecursion (IsChild height) xs → length (joined xs) ≡ 0 → length xs ≡ 0
no_children height [] a h = refl
no_children height (x ∷ xs) a h = absurd (omega (arith, h, a.0.filled, length-append x.node.0 (joined xs)))

-- what is known of a child at its own height
pub child_itself : (height : ℕ) (c : Child) → IsChild height c → IsChild c.node.1 c
child_itself height c k = record { level = refl; filled = k.filled; len = k.len; first = k.first }

module _ (xs : List Child) (i : ℕ) (c : Child) (cs : List Child) (n w : ℕ) (e : drop i xs ≡ c ∷ cs) (at : n ≡ length (joined (take i xs)) + w) (h : w ≤ length c.node.0) where
  -- the pairs from a place in a child onward
  pub drop_joined : drop n (joined xs) ≡ drop w c.node.0 ++ joined cs
  drop_joined = ap (drop n) (joined_parts xs i ∙ ap (λ p. joined (take i xs) ++ joined p) e) ∙ drop_second (joined (take i xs)) (c.node.0 ++ joined cs) n w at ∙ drop-append-le w c.node.0 (joined cs) h

  -- the pairs before a place in a child
  pub take_joined : take n (joined xs) ≡ joined (take i xs) ++ take w c.node.0
  take_joined = ap (take n) (joined_parts xs i ∙ ap (λ p. joined (take i xs) ++ joined p) e) ∙ take_second (joined (take i xs)) (c.node.0 ++ joined cs) n w at ∙ ap (λ p. joined (take i xs) ++ p) (take-append-le w c.node.0 (joined cs) h)

-- a place among all pairs is in a child
pub seek_within : (xs : List Child) (i n w : ℕ) → i ≤ length xs → n ≡ length (joined (take i xs)) + w → n < length (joined xs) → i < length xs
seek_within xs i n w h e k = by_order i (length xs) (λ p. p) (λ p. absurd (omega (arith, e, k, ap (λ l. length (joined l)) (take_all i xs (omega (arith, p)))))) h

-- the first child of those from a place onward
pub first_of : (xs ys : List Child) (i : ℕ) (c : Child) (cs : List Child) → ys ≡ xs → take (length ys - i) (drop i ys) ≡ c ∷ cs → drop i xs ≡ c ∷ cs
first_of xs ys i c cs e h = subst (λ l. drop i l ≡ c ∷ cs) e (sym (take_all (length ys - i) (drop i ys) (omega (arith, length-drop i ys))) ∙ h)

-- the pairs from a place to the end of a part of a child
pub part_joined : (xs : List Child) (i : ℕ) (c : Child) (cs : List Child) (n w : ℕ) (b : List Scored) → drop i xs ≡ c ∷ cs → n ≡ length (joined (take i xs)) + w → w < length c.node.0 → drop w c.node.0 ≡ b ++ drop (w + length b) c.node.0 → drop n (joined xs) ≡ b ++ drop (n + length b) (joined xs)
part_joined xs i c cs n w b e at h k =
    let m : w + length b ≤ length c.node.0 = omega (arith, h, ap length k, length-append b (drop (w + length b) c.node.0), length-drop w c.node.0) in
    drop_joined xs i c cs n w e at (omega arith) ∙ ap (λ p. p ++ joined cs) k ∙ append_assoc b (drop (w + length b) c.node.0) (joined cs) ∙ ap (λ p. b ++ p) (sym (drop_joined xs i c cs (n + length b) (w + length b) e (omega arith) m))

-- with another child in place of one
pub joined_set : (xs : List Child) (i : ℕ) (c : Child) → i < length xs → joined (set xs i c) ≡ joined (take i xs) ++ (c.node.0 ++ joined (drop (i + 1) xs))
joined_set xs i c h = joined_parts (set xs i c) i ∙ ap (λ l. joined l ++ joined (drop i (set xs i c))) (take-set xs i c) ∙ ap (λ l. joined (take i xs) ++ joined l) (drop-set xs i c h)

-- with two children that share its pairs in place of one
pub joined_split : (xs : List Child) (i : ℕ) (c lower upper : Child) → i < length xs → c ≡ get_or xs i c → c.node.0 ≡ lower.node.0 ++ upper.node.0 → joined (insert (set xs i lower) (i + 1) upper) ≡ joined xs
joined_split xs i c lower upper h e k =
    let ys = set xs i lower in
    let p = joined (take i xs) in
    let q = joined (drop (i + 1) xs) in
    let l : joined (take (i + 1) ys) ≡ p ++ lower.node.0 = ap joined (take_more_set xs i lower h) ∙ joined_append (take i xs) (lower ∷ []) ∙ ap (λ z. p ++ z) (append-nil lower.node.0) in
    let r : drop (i + 1) ys ≡ drop (i + 1) xs = drop-set-lt (i + 1) xs i lower (omega arith) in
    joined_append (take (i + 1) ys) (upper ∷ drop (i + 1) ys) ∙ ap (λ z. z ++ (upper.node.0 ++ joined (drop (i + 1) ys))) l ∙ ap (λ z. (p ++ lower.node.0) ++ (upper.node.0 ++ joined z)) r ∙ append_assoc p lower.node.0 (upper.node.0 ++ q) ∙ ap (λ z. p ++ z) (sym (append_assoc lower.node.0 upper.node.0 q)) ∙ ap (λ z. p ++ (z ++ q)) (sym k) ∙ sym (joined_at xs i c h e)

-- with a child in place of one that has its pairs
pub joined_same : (xs : List Child) (i : ℕ) (c d : Child) → i < length xs → c ≡ get_or xs i c → d.node.0 ≡ c.node.0 → joined (set xs i d) ≡ joined xs
joined_same xs i c d h e k = joined_set xs i d h ∙ ap (λ p. joined (take i xs) ++ (p ++ joined (drop (i + 1) xs))) k ∙ sym (joined_at xs i c h e)

none_of : (l : List Scored) → length l ≡ 0 → l ≡ []
none_of [] h = refl
none_of (x ∷ l) h = absurd (omega (arith, h))

-- without a child that has no pairs
pub joined_remove : (xs : List Child) (i : ℕ) (c : Child) → i < length xs → length c.node.0 ≡ 0 → joined (remove (set xs i c) i) ≡ joined (take i xs) ++ (c.node.0 ++ joined (drop (i + 1) xs))
joined_remove xs i c h e =
    let n : suc i ≡ i + 1 = omega arith in
    joined_append (take i (set xs i c)) (drop (suc i) (set xs i c)) ∙ ap (λ l. joined l ++ joined (drop (suc i) (set xs i c))) (take-set xs i c) ∙ ap (λ l. joined (take i xs) ++ joined l) (drop-set-lt (suc i) xs i c (omega arith)) ∙ ap (λ m. joined (take i xs) ++ joined (drop m xs)) n ∙ ap (λ l. joined (take i xs) ++ (l ++ joined (drop (i + 1) xs))) (sym (none_of c.node.0 e))
