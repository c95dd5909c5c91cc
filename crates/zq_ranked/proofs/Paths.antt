-- Levels of a path of which one is changed.
use Rattle.std.proofs.Common.{◌≡◌, ℕ, ◌+◌, ◌<◌, List, [], ◌∷◌, ◌++◌, length, take, drop, get_or, set, suc, zero, refl, sym, ap, subst, ◌∙◌, arith, append_assoc}
use Rattle.std.specs.Borrow.{Bor}
use Rattle.std.specs.List.{AllByRecursion}
use Rattle.std.proofs.lemmas.List.{append-nil, drop_more, drop-set, take-append-drop, take_more, take-set}
use Rattle.zq_ranked.proofs.Joined.{joined_append, no_pairs}
use Rattle.zq_ranked.specs.Order.{Scored}
use Rattle.zq_ranked.specs.Paths.{AreOfHeights, IsPath, backward, onward}
use Rattle.zq_ranked.specs.Shape.{IsChild, joined}
use Rattle.zq_ranked.specs.declared.child.Child.{Child}

-- the pairs after two lists of levels
onward_append : (xs ys : List (Bor (List Child))) → onward (xs ++ ys) ≡ onward xs ++ onward ys
onward_append [] ys = refl
onward_append (x ∷ xs) ys = ap (λ p. joined x.now ++ p) (onward_append xs ys) ∙ sym (append_assoc (joined x.now) (onward xs) (onward ys))

-- the pairs before two lists of levels
backward_append : (xs ys : List (Bor (List Child))) → backward (xs ++ ys) ≡ backward ys ++ backward xs
backward_append [] ys = sym (append-nil (backward ys))
backward_append (x ∷ xs) ys = ap (λ p. p ++ joined x.now) (backward_append xs ys) ∙ append_assoc (backward ys) (backward xs) (joined x.now)

-- the first of two lists that have nothing has nothing
nothing_first : (xs ys : List Scored) → xs ++ ys ≡ [] → xs ≡ []
nothing_first [] ys h = refl
nothing_first (x ∷ xs) ys h = absurd (omega (arith, ap length h))

nothing_second : (xs ys : List Scored) → xs ++ ys ≡ [] → ys ≡ []
nothing_second [] ys h = h
nothing_second (x ∷ xs) ys h = absurd (omega (arith, ap length h))

-- fewer of the first so many
take_less : (xs : List (Bor (List Child))) (i n : ℕ) → n ≡ i + 1 → take i (take n xs) ≡ take i xs
take_less xs zero n e = refl
take_less xs (suc i) zero e = absurd (omega arith)
take_less [] (suc i) (suc n) e = refl
take_less (x ∷ xs) (suc i) (suc n) e = ap (λ l. x ∷ l) (take_less xs i n (omega arith))

-- what has no pairs has none below a level
pub onward_none : (xs : List (Bor (List Child))) (i : ℕ) → onward xs ≡ [] → onward (take i xs) ≡ []
onward_none xs i h = nothing_first (onward (take i xs)) (onward (drop i xs)) (sym (onward_append (take i xs) (drop i xs)) ∙ ap onward (take-append-drop i xs) ∙ h)

pub backward_none : (xs : List (Bor (List Child))) (i : ℕ) → backward xs ≡ [] → backward (take i xs) ≡ []
backward_none xs i h = nothing_second (backward (drop i xs)) (backward (take i xs)) (sym (backward_append (take i xs) (drop i xs)) ∙ ap backward (take-append-drop i xs) ∙ h)

module _ (xs : List (Bor (List Child))) (i : ℕ) (b : Bor (List Child)) where
  -- the lower levels have nothing more where those up to one have nothing
  pub onward_lower : onward (take (i + 1) xs) ≡ [] → onward (take i (set xs i b)) ≡ []
  onward_lower h = ap onward (take-set xs i b ∙ sym (take_less xs i (i + 1) refl)) ∙ onward_none (take (i + 1) xs) i h

  pub backward_lower : backward (take (i + 1) xs) ≡ [] → backward (take i (set xs i b)) ≡ []
  backward_lower h = ap backward (take-set xs i b ∙ sym (take_less xs i (i + 1) refl)) ∙ backward_none (take (i + 1) xs) i h

  -- children in a level that had nothing, as those below it, come first
  pub onward_set : i < length xs → onward (take (i + 1) xs) ≡ [] → onward (set xs i b) ≡ joined b.now ++ onward xs
  onward_set k h =
      let low = onward_lower h in
      let all : onward xs ≡ onward (drop (i + 1) xs) = ap onward (sym (take-append-drop (i + 1) xs)) ∙ onward_append (take (i + 1) xs) (drop (i + 1) xs) ∙ ap (λ p. p ++ onward (drop (i + 1) xs)) h in
      ap onward (sym (take-append-drop i (set xs i b))) ∙ onward_append (take i (set xs i b)) (drop i (set xs i b)) ∙ ap (λ p. p ++ onward (drop i (set xs i b))) low ∙ ap onward (drop-set xs i b k) ∙ ap (λ p. joined b.now ++ p) (sym all)

  -- and last before
  pub backward_set : i < length xs → backward (take (i + 1) xs) ≡ [] → backward (set xs i b) ≡ backward xs ++ joined b.now
  backward_set k h =
      let low = backward_lower h in
      let all : backward xs ≡ backward (drop (i + 1) xs) = ap backward (sym (take-append-drop (i + 1) xs)) ∙ backward_append (take (i + 1) xs) (drop (i + 1) xs) ∙ ap (λ p. backward (drop (i + 1) xs) ++ p) h ∙ append-nil (backward (drop (i + 1) xs)) in
      ap backward (sym (take-append-drop i (set xs i b))) ∙ backward_append (take i (set xs i b)) (drop i (set xs i b)) ∙ ap (λ p. backward (drop i (set xs i b)) ++ p) low ∙ append-nil (backward (drop i (set xs i b))) ∙ ap backward (drop-set xs i b k) ∙ ap (λ p. p ++ joined b.now) (sym all)

module _ (xs : List (Bor (List Child))) (i : ℕ) (b : Bor (List Child)) (k : i < length xs) (e : b ≡ get_or xs i b) where
  -- a level that has no children has no pairs
  pub onward_more : length b.now ≡ 0 → onward (take i xs) ≡ [] → onward (take (i + 1) xs) ≡ []
  onward_more n h = ap onward (take_more xs i b k) ∙ onward_append (take i xs) (get_or xs i b ∷ []) ∙ ap (λ p. p ++ onward (get_or xs i b ∷ [])) h ∙ append-nil (joined (get_or xs i b).now) ∙ ap (λ x. joined x.now) (sym e) ∙ no_pairs b.now n

  pub backward_more : length b.now ≡ 0 → backward (take i xs) ≡ [] → backward (take (i + 1) xs) ≡ []
  backward_more n h = ap backward (take_more xs i b k) ∙ backward_append (take i xs) (get_or xs i b ∷ []) ∙ ap (λ p. backward (get_or xs i b ∷ []) ++ p) h ∙ append-nil (joined (get_or xs i b).now) ∙ ap (λ x. joined x.now) (sym e) ∙ no_pairs b.now n

  module _ (c : Child) (others : Bor (List Child)) where
    -- the first child of the first level that has any comes first
    pub onward_first : b.now ≡ c ∷ others.now → onward (take i xs) ≡ [] → onward xs ≡ c.node.0 ++ onward (set xs i others)
    onward_first f h =
        let rest = onward (drop (i + 1) xs) in
        let changed : onward (set xs i others) ≡ joined others.now ++ rest = ap onward (sym (take-append-drop i (set xs i others))) ∙ onward_append (take i (set xs i others)) (drop i (set xs i others)) ∙ ap (λ p. onward p ++ onward (drop i (set xs i others))) (take-set xs i others) ∙ ap (λ p. p ++ onward (drop i (set xs i others))) h ∙ ap onward (drop-set xs i others k) in
        ap onward (sym (take-append-drop i xs)) ∙ onward_append (take i xs) (drop i xs) ∙ ap (λ p. p ++ onward (drop i xs)) h ∙ ap onward (drop_more xs i b k) ∙ ap (λ x. joined x.now ++ rest) (sym e) ∙ ap (λ l. joined l ++ rest) f ∙ append_assoc c.node.0 (joined others.now) rest ∙ ap (λ p. c.node.0 ++ p) (sym changed)

    -- the last child of the first level that has any comes last
    pub backward_last : b.now ≡ others.now ++ (c ∷ []) → backward (take i xs) ≡ [] → backward xs ≡ backward (set xs i others) ++ c.node.0
    backward_last f h =
        let rest = backward (drop (i + 1) xs) in
        let changed : backward (set xs i others) ≡ rest ++ joined others.now = ap backward (sym (take-append-drop i (set xs i others))) ∙ backward_append (take i (set xs i others)) (drop i (set xs i others)) ∙ ap (λ p. backward (drop i (set xs i others)) ++ backward p) (take-set xs i others) ∙ ap (λ p. backward (drop i (set xs i others)) ++ p) h ∙ append-nil (backward (drop i (set xs i others))) ∙ ap backward (drop-set xs i others k) in
        let both : joined b.now ≡ joined others.now ++ c.node.0 = ap joined f ∙ joined_append others.now (c ∷ []) ∙ ap (λ p. joined others.now ++ p) (append-nil c.node.0) in
        ap backward (sym (take-append-drop i xs)) ∙ backward_append (take i xs) (drop i xs) ∙ ap (λ p. backward (drop i xs) ++ p) h ∙ append-nil (backward (drop i xs)) ∙ ap backward (drop_more xs i b k) ∙ ap (λ x. rest ++ joined x.now) (sym e) ∙ ap (λ p. rest ++ p) both ∙ sym (append_assoc rest (joined others.now) c.node.0) ∙ ap (λ p. p ++ c.node.0) (sym changed)

-- children of a level's height may stand there
heights_set : (n : ℕ) (xs : List (Bor (List Child))) (i : ℕ) (b : Bor (List Child)) → AreOfHeights n xs → AllByRecursion (IsChild (n + i)) b.now → AreOfHeights n (set xs i b)
heights_set n [] i b h k = tt
heights_set n (x ∷ xs) zero b h k = let e : n + 0 ≡ n = omega arith in (subst (λ m. AllByRecursion (IsChild m) b.now) e k, h.1)
heights_set n (x ∷ xs) (suc i) b h k = let e : n + suc i ≡ (n + 1) + i = omega arith in (h.0, heights_set (n + 1) xs i b h.1 (subst (λ m. AllByRecursion (IsChild m) b.now) e k))

pub path_set : (xs : List (Bor (List Child))) (i : ℕ) (b : Bor (List Child)) → IsPath xs → AllByRecursion (IsChild i) b.now → IsPath (set xs i b)
path_set xs i b h k = let e : i ≡ 0 + i = omega arith in record { heights = heights_set 0 xs i b h.heights (subst (λ m. AllByRecursion (IsChild m) b.now) e k) }

-- what stands at a level is of its height
heights_at : (n : ℕ) (xs : List (Bor (List Child))) (i : ℕ) (d : Bor (List Child)) → AreOfHeights n xs → i < length xs → AllByRecursion (IsChild (n + i)) (get_or xs i d).now
heights_at n [] i d h k = absurd (omega arith)
heights_at n (x ∷ xs) zero d h k = let e : n ≡ n + 0 = omega arith in subst (λ m. AllByRecursion (IsChild m) x.now) e h.0
heights_at n (x ∷ xs) (suc i) d h k = let e : (n + 1) + i ≡ n + suc i = omega arith in subst (λ m. AllByRecursion (IsChild m) (get_or xs i d).now) e (heights_at (n + 1) xs i d h.1 (omega arith))

path_at : (xs : List (Bor (List Child))) (i : ℕ) (d : Bor (List Child)) → IsPath xs → i < length xs → AllByRecursion (IsChild i) (get_or xs i d).now
path_at xs i d h k = let e : 0 + i ≡ i = omega arith in subst (λ m. AllByRecursion (IsChild m) (get_or xs i d).now) e (heights_at 0 xs i d h.heights k)

pub level_at : (xs : List (Bor (List Child))) (i : ℕ) (b : Bor (List Child)) (children : List Child) → IsPath xs → i < length xs → b ≡ get_or xs i b → b.now ≡ children → AllByRecursion (IsChild i) children
level_at xs i b children h k e f = subst (λ l. AllByRecursion (IsChild i) l) f (subst (λ x. AllByRecursion (IsChild i) x.now) (sym e) (path_at xs i b h k))
