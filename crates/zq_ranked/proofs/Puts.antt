-- A pair put among others, or taken from them.
use Rattle.std.proofs.Common.{FitsSigned, IsTrue, ◌↔◌, inl, inr, Bool, ◌≡◌, ℕ, ◌+◌, ◌-◌, ◌<◌, ◌≤◌, true, false, cond, if◌then◌else◌, List, ◌++◌, length, get_or, refl, sym, ap, subst, ◌∙◌, arith, true≢false}
use Rattle.std.specs.Prelude.{Err, Ok, OnErr, Result}
use Rattle.std.specs.List.{Contains, insert, remove}
use Rattle.std.specs.List.Sorted.{IsStrictlySortedBy}
use Rattle.std.specs.Ordering.{is_eq, is_lt}
use Rattle.std.specs.declared.cmp.Ordering.TheVariants.{Equal, Less}
use Rattle.std.proofs.lemmas.Cmp.{tied_itself}
use Rattle.std.proofs.lemmas.List.Edits.{length-insert, length-remove}
use Rattle.std.specs.Int.{w128}
use Rattle.std.proofs.lemmas.List.Elements.{Contains-append_cases, Contains-append_left, Contains-append_right}
use Rattle.std.proofs.lemmas.List.Sums.{count_by-le-length, sum_by-append}
use Rattle.zq_ranked.proofs.Edits.{insert_second, remove_second}
use Rattle.zq_ranked.proofs.Ranks.{count_at}
use Rattle.zq_ranked.proofs.Sorted.{equal_from, not_back, rank_there, ranked_insert, ranked_remove, same_default, scored_antisymmetric, scored_total}
use Rattle.zq_ranked.specs.Edits.{IsPut, IsTaken}
use Rattle.zq_ranked.specs.Order.{AreAfter, AreBefore, IsRanking, Scored, goes_before, rank_of, scored_cmp}

module _ (t : Scored) where
  itself : scored_cmp t t ≡ Equal
  itself = tied_itself scored_total t

  not_less : scored_cmp t t ≡ Less → ⊥
  not_less e = true≢false (sym (ap is_lt e) ∙ ap is_lt itself)

  -- all of those before count
  rank_before : (p : List Scored) → AreBefore t p → rank_of t p ≡ length p
  rank_before p f = count_at (goes_before t) p (length p) (omega arith) (λ k d h. ap is_lt (f.each k d h)) (λ k d a b. absurd (omega arith))

  -- none of those after
  rank_after : (q : List Scored) → AreAfter t q → rank_of t q ≡ 0
  rank_after q g = count_at (goes_before t) q 0 (omega arith) (λ k d h. absurd (omega arith)) (λ k d a b. not_back t _ (g.each k d b))

  -- the rank among others is that between them
  pub rank_around : (p m q : List Scored) → AreBefore t p → AreAfter t q → rank_of t (p ++ (m ++ q)) ≡ length p + rank_of t m
  rank_around p m q f g =
      omega (arith, rank_before p f, rank_after q g, sum_by-append (λ x. cond (goes_before t x) 1 0) p (m ++ q), sum_by-append (λ x. cond (goes_before t x) 1 0) m q)

  -- it is among others where it is between them
  pub there_around : (p m q : List Scored) → AreBefore t p → AreAfter t q → (Contains (p ++ (m ++ q)) t ↔ Contains m t)
  there_around p m q f g = (
    λ c. elim (Contains-append_cases p (m ++ q) t c) [
      | inl a ↦ absurd (not_less (subst (λ y. scored_cmp y t ≡ Less) a.2 (f.each a.0 t a.1)))
      | inr b ↦ elim (Contains-append_cases m q t b) [
        | inl a ↦ a
        | inr a ↦ absurd (not_less (subst (λ y. scored_cmp t y ≡ Less) a.2 (g.each a.0 t a.1)))
      ]
    ],
    λ c. Contains-append_right p (m ++ q) t (Contains-append_left m q t c),
  )

  module _ (p m n q : List Scored) (f : AreBefore t p) (g : AreAfter t q) where
    -- what is put between is put among all
    pub put_around : (a : Bool) → IsPut t m n a → IsPut t (p ++ (m ++ q)) (p ++ (n ++ q)) a
    put_around a h = record { put = by a h.put; absent = (λ y c. h.absent.0 y ((there_around p m q f g).0 c), λ c. h.absent.1 (λ d. c ((there_around p m q f g).1 d))) } where
      rank_is : rank_of t (p ++ (m ++ q)) ≡ length p + rank_of t m
      rank_is = rank_around p m q f g

      within : rank_of t m ≤ length m
      within = count_by-le-length (goes_before t) m

      placed : insert (p ++ (m ++ q)) (rank_of t (p ++ (m ++ q))) t ≡ p ++ (insert m (rank_of t m) t ++ q)
      placed =
          let e : rank_of t (p ++ (m ++ q)) - length p ≡ rank_of t m = omega (arith, rank_is) in
          insert_second p m q (rank_of t (p ++ (m ++ q))) t (omega (arith, rank_is)) (omega (arith, rank_is, within)) ∙ ap (λ i. p ++ (insert m i t ++ q)) e

      by : (a : Bool) → n ≡ (if a then insert m (rank_of t m) t else m) → p ++ (n ++ q) ≡ (if a then insert (p ++ (m ++ q)) (rank_of t (p ++ (m ++ q))) t else p ++ (m ++ q))
      by true e = ap (λ z. p ++ (z ++ q)) e ∙ sym placed
      by false e = ap (λ z. p ++ (z ++ q)) e

    -- what is taken from between is taken from all
    pub taken_around : (a : Bool) → IsStrictlySortedBy scored_cmp m → IsTaken t m n a → IsTaken t (p ++ (m ++ q)) (p ++ (n ++ q)) a
    taken_around a s h = record { left = by a h.left h.present.0; present = (λ y. (there_around p m q f g).1 (h.present.0 y), λ c. h.present.1 ((there_around p m q f g).0 c)) } where
      rank_is : rank_of t (p ++ (m ++ q)) ≡ length p + rank_of t m
      rank_is = rank_around p m q f g

      placed : Contains m t → remove (p ++ (m ++ q)) (rank_of t (p ++ (m ++ q))) ≡ p ++ (remove m (rank_of t m) ++ q)
      placed c =
          let e : rank_of t (p ++ (m ++ q)) - length p ≡ rank_of t m = omega (arith, rank_is) in
          let w : rank_of t m < length m = omega (arith, rank_there m s t c.0 c.1 c.2, c.1) in
          remove_second p m q (rank_of t (p ++ (m ++ q))) (omega (arith, rank_is)) (omega (arith, rank_is, w)) ∙ ap (λ i. p ++ (remove m i ++ q)) e

      by : (a : Bool) → n ≡ (if a then remove m (rank_of t m) else m) → (IsTrue a → Contains m t) → p ++ (n ++ q) ≡ (if a then remove (p ++ (m ++ q)) (rank_of t (p ++ (m ++ q))) else p ++ (m ++ q))
      by true e c = ap (λ z. p ++ (z ++ q)) e ∙ sym (placed (c refl))
      by false e c = ap (λ z. p ++ (z ++ q)) e

-- a pair stands at its rank exactly where it is there
pub there_at : (xs : List Scored) (n : ℕ) (t x : Scored) → IsStrictlySortedBy scored_cmp xs → n ≡ rank_of t xs → n < length xs → x ≡ get_or xs n x → (IsTrue (is_eq (scored_cmp x t)) ↔ Contains xs t)
there_at xs n t x s p h f = (
  λ k. (n, h, same_default xs n t x h ∙ sym f ∙ scored_antisymmetric x t (equal_from _ k)),
  λ c.
      let at : n ≡ c.0 = p ∙ rank_there xs s t c.0 c.1 c.2 in
      let same : x ≡ t = f ∙ same_default xs n x t h ∙ ap (λ k. get_or xs k t) at ∙ c.2 in
      subst (λ y. is_eq (scored_cmp y t) ≡ true) (sym same) (ap is_eq (tied_itself scored_total t)),
)

module _ (t : Scored) (p m q : List Scored) (f : AreBefore t p) (g : AreAfter t q) where
  -- what is not between is not among all
  pub absent_around : (Contains m t → ⊥) → Contains (p ++ (m ++ q)) t → ⊥
  absent_around c h = c ((there_around t p m q f g).0 h)

module _ (t : Scored) (xs ys : List Scored) where
  -- one pair more where it was put
  pub length_put : IsPut t xs ys true → length ys ≡ length xs + 1
  length_put h = ap length h.put ∙ length-insert xs (rank_of t xs) t (count_by-le-length (goes_before t) xs)

  -- one pair less where it was taken
  pub length_taken : IsStrictlySortedBy scored_cmp xs → IsTaken t xs ys true → length ys + 1 ≡ length xs
  length_taken s h =
      let c = h.present.0 refl in
      let w : rank_of t xs < length xs = omega (arith, rank_there xs s t c.0 c.1 c.2, c.1) in
      ap (λ z. length z + 1) h.left ∙ length-remove xs (rank_of t xs) w

  -- a ranking stays one with a pair put in
  pub ranking_put : (a : Bool) → IsRanking xs → FitsSigned w128 t.0 → IsPut t xs ys a → IsRanking ys
  ranking_put true r f h = rw h.put (ranked_insert xs (rank_of t xs) t t r refl refl (h.absent.0 refl) f)
  ranking_put false r f h = rw h.put r

  -- a ranking stays one without a pair
  pub ranking_taken : (a : Bool) → IsRanking xs → IsTaken t xs ys a → IsRanking ys
  ranking_taken true r h = rw h.left (ranked_remove xs (rank_of t xs) r)
  ranking_taken false r h = rw h.left r

-- what holds anyway holds where there is an error
pub on_err : {T E P : Type 0} (r : Result T E) → P → OnErr r P
on_err (Ok x) p = tt
on_err (Err e) p = p
