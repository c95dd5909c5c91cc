-- What holds of all items of a list.
use Rattle.std.proofs.Common.{ℕ, ◌<◌, List, [], ◌∷◌, ◌++◌, length, take, drop, get_or, suc, zero, arith}
use Rattle.std.specs.List.{AllByRecursion, insert, remove}

module _ {X : Type 0} (P : X → Type 0) where
  -- of one of them
  pub all_at : (xs : List X) (i : ℕ) (d : X) → AllByRecursion P xs → i < length xs → P (get_or xs i d)
  all_at [] i d h k = absurd (omega arith)
  all_at (x ∷ xs) zero d h k = h.0
  all_at (x ∷ xs) (suc i) d h k = all_at xs i d h.1 (omega arith)

  -- of the first
  pub all_front : (xs ys : List X) → AllByRecursion P (xs ++ ys) → AllByRecursion P xs
  all_front [] ys h = tt
  all_front (x ∷ xs) ys h = (h.0, all_front xs ys h.1)

  -- of the last
  pub all_back : (xs ys : List X) → AllByRecursion P (xs ++ ys) → AllByRecursion P ys
  all_back [] ys h = h
  all_back (x ∷ xs) ys h = all_back xs ys h.1

  -- of the first so many
  pub all_take : (xs : List X) (n : ℕ) → AllByRecursion P xs → AllByRecursion P (take n xs)
  all_take xs zero h = tt
  all_take [] (suc n) h = tt
  all_take (x ∷ xs) (suc n) h = (h.0, all_take xs n h.1)

  -- of those from a place onward
  pub all_drop : (xs : List X) (n : ℕ) → AllByRecursion P xs → AllByRecursion P (drop n xs)
  all_drop xs zero h = h
  all_drop [] (suc n) h = tt
  all_drop (x ∷ xs) (suc n) h = all_drop xs n h.1

  -- of both of two lists
  pub all_append : (xs ys : List X) → AllByRecursion P xs → AllByRecursion P ys → AllByRecursion P (xs ++ ys)
  all_append [] ys h k = k
  all_append (x ∷ xs) ys h k = (h.0, all_append xs ys h.1 k)

  -- with one more among them
  pub all_insert : (xs : List X) (i : ℕ) (x : X) → AllByRecursion P xs → P x → AllByRecursion P (insert xs i x)
  all_insert xs i x h p = all_append (take i xs) (x ∷ drop i xs) (all_take xs i h) (p, all_drop xs i h)

  -- without one
  pub all_remove : (xs : List X) (i : ℕ) → AllByRecursion P xs → AllByRecursion P (remove xs i)
  all_remove xs i h = all_append (take i xs) (drop (suc i) xs) (all_take xs i h) (all_drop xs (suc i) h)
