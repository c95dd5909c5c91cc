-- Edits of three lists one after another.
use Rattle.std.proofs.Common.{◌≡◌, ℕ, ◌-◌, ◌<◌, ◌≤◌, List, ◌++◌, length, refl, ap, ◌∙◌}
use Rattle.std.specs.List.{insert, remove}
use Rattle.std.proofs.lemmas.List.Edits.{insert-append_left, insert-append_right, remove-append_left, remove-append_right}

module _ {X : Type 0} where
  -- a place in the second list
  pub insert_second : (l b r : List X) (n : ℕ) (x : X) → length l ≤ n → n - length l ≤ length b → insert (l ++ (b ++ r)) n x ≡ l ++ (insert b (n - length l) x ++ r)
  insert_second l b r n x h k = insert-append_right l (b ++ r) (length l) n x refl h ∙ ap (λ p. l ++ p) (insert-append_left b r (n - length l) x k)

  -- a place in the second list
  pub remove_second : (l b r : List X) (n : ℕ) → length l ≤ n → n - length l < length b → remove (l ++ (b ++ r)) n ≡ l ++ (remove b (n - length l) ++ r)
  remove_second l b r n h k = remove-append_right l (b ++ r) (length l) n refl h ∙ ap (λ p. l ++ p) (remove-append_left b r (n - length l) k)
