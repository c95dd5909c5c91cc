-- A pair that belongs to one child of many.
use Rattle.std.proofs.Common.{◌≡◌, ℕ, ◌+◌, ◌<◌, Bool, List, ◌++◌, length, take, drop, get_or, sym, ap, subst, ◌∙◌}
use Rattle.std.specs.List.{Contains}
use Rattle.std.specs.List.Sorted.{IsStrictlySortedBy}
use Rattle.zq_ranked.proofs.Joined.{joined_at, sorted_at}
use Rattle.zq_ranked.proofs.Puts.{absent_around, put_around, rank_around, taken_around}
use Rattle.zq_ranked.specs.Edits.{IsPut, IsTaken}
use Rattle.zq_ranked.specs.Order.{AreAfter, AreBefore, Scored, rank_of, scored_cmp}
use Rattle.zq_ranked.specs.Shape.{joined}
use Rattle.zq_ranked.specs.declared.child.Child.{Child}

module _ (xs : List Child) (i : ℕ) (c : Child) (h : i < length xs) (e : c ≡ get_or xs i c) (t : Scored) (f : AreBefore t (joined (take i xs))) (g : AreAfter t (joined (drop (i + 1) xs))) where
  -- its rank among all is that in the child, past those before
  pub rank_at : rank_of t (joined xs) ≡ length (joined (take i xs)) + rank_of t c.node.0
  rank_at = ap (rank_of t) (joined_at xs i c h e) ∙ rank_around t (joined (take i xs)) c.node.0 (joined (drop (i + 1) xs)) f g

  -- it is not among all where it is not in the child
  pub absent_at : (Contains c.node.0 t → ⊥) → Contains (joined xs) t → ⊥
  absent_at a k = absent_around t (joined (take i xs)) c.node.0 (joined (drop (i + 1) xs)) f g a (subst (λ l. Contains l t) (joined_at xs i c h e) k)

  module _ (n all : List Scored) (a : Bool) (k : all ≡ joined (take i xs) ++ (n ++ joined (drop (i + 1) xs))) where
    -- what is put into the child is put among all
    pub put_at : IsPut t c.node.0 n a → IsPut t (joined xs) all a
    put_at p = subst (λ l. IsPut t l all a) (sym (joined_at xs i c h e)) (subst (λ l. IsPut t (joined (take i xs) ++ (c.node.0 ++ joined (drop (i + 1) xs))) l a) (sym k) (put_around t (joined (take i xs)) c.node.0 n (joined (drop (i + 1) xs)) f g a p))

    -- what is taken from the child is taken from all
    pub taken_at : IsStrictlySortedBy scored_cmp (joined xs) → IsTaken t c.node.0 n a → IsTaken t (joined xs) all a
    taken_at s p = subst (λ l. IsTaken t l all a) (sym (joined_at xs i c h e)) (subst (λ l. IsTaken t (joined (take i xs) ++ (c.node.0 ++ joined (drop (i + 1) xs))) l a) (sym k) (taken_around t (joined (take i xs)) c.node.0 n (joined (drop (i + 1) xs)) f g a (sorted_at xs i c h e s) p))
