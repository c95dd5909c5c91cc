-- Notes of one thread.

use Rattle.std.proofs.Common.{ap, arith, inl, inr, subst, sym, ◌∙◌}
use Rattle.std.proofs.lemmas.Bool.{cases_Bool, eqb-true}
use Rattle.std.specs.Prelude.{List, [], map, refl, ℕ, ◌++◌, ◌==◌, ◌∷◌, ◌≡◌, ◌⊎◌}
use Rattle.zq_model.specs.Books.{Book, Step}
use Rattle.zq_model.specs.Rule.{Rule}
use Rattle.zq_model.specs.Sets.{IsIn}
use Rattle.zq_notes.specs.Does.{Does}
use Rattle.zq_notes.specs.Notes.{Books, Note}
use Rattle.zq_notes.specs.Order.{AllAfter, AreOrdered, IsBefore}
use Rattle.zq_notes.specs.Thread.{AreOwn, AreOwnIn, AreOverLeft, IsNoteOver, IsOneThread, left_by, left_by_all, left_in}

-- a heap that is not held keeps its book
pub left_alone : (stamp : ℕ) (heaps : List ℕ) (steps : List (List Step)) (h : ℕ) (b : Book) → (IsIn h heaps → ⊥) → left_in stamp heaps steps h b ≡ b
left_alone stamp [] steps h b out = refl
left_alone stamp (k ∷ heaps) [] h b out = refl
left_alone stamp (k ∷ heaps) (ss ∷ steps) h b out =
    elim (cases_Bool (k == h)) [
      | inl same ↦ absurd (out (inl (eqb-true k h same)))
      | inr other ↦ rw other (left_alone stamp heaps steps h b (λ i. out (inr i)))
    ]

-- what is the same at each of these heaps
map_same : (heaps : List ℕ) (f g : Books) → ((h : ℕ) → IsIn h heaps → f h ≡ g h) → map f heaps ≡ map g heaps
map_same [] f g same = refl
map_same (k ∷ heaps) f g same = rw (same k (inl refl), map_same heaps f g (λ h i. same h (inr i))) refl

pub own_same : (stamp : ℕ) (heaps : List ℕ) (steps : List (List Step)) (f g : Books) → ((h : ℕ) → IsIn h heaps → f h ≡ g h) → AreOwnIn stamp f heaps steps → AreOwnIn stamp g heaps steps
own_same stamp [] [] f g same own = tt
own_same stamp [] (ss ∷ steps) f g same own = absurd own
own_same stamp (h ∷ heaps) [] f g same own = absurd own
own_same stamp (h ∷ heaps) (ss ∷ steps) f g same own =
    (subst (λ b. AreOwn stamp b ss) (same h (inl refl)) own.0, own_same stamp heaps steps f g (λ k i. same k (inr i)) own.1)

-- a heap that is held, or in which nothing is done
held_or_alone : (stamp : ℕ) (heaps : List ℕ) (steps : List (List Step)) (h : ℕ) → IsIn h heaps ⊎ ((b : Book) → left_in stamp heaps steps h b ≡ b)
held_or_alone stamp [] steps h = inr (λ b. refl)
held_or_alone stamp (k ∷ heaps) [] h = inr (λ b. refl)
held_or_alone stamp (k ∷ heaps) (ss ∷ steps) h =
    elim (cases_Bool (k == h)) [
      | inl same ↦ inl (inl (eqb-true k h same))
      | inr other ↦ elim (held_or_alone stamp heaps steps h) [ inl there ↦ inl (inr there) | inr none ↦ inr (λ b. rw other (none b)) ]
    ]

-- two calls share no heap
abbrev pub AreApart : Note → Note → Type 0
AreApart n m = (h : ℕ) → IsIn h n.heaps → IsIn h m.heaps → ⊥

-- a heap that the one call held is as it was after the other
untouched : (n m : Note) (books : Books) → AreApart n m → (h : ℕ) → IsIn h m.heaps → left_by n books h ≡ books h
untouched n m books apart h there = left_alone n.stamp n.heaps n.steps h (books h) (λ here. apart h here there)

-- two calls that share no heap leave the same in either order
swapped_in : (n m : Note) (books : Books) → AreApart n m → (h : ℕ) → left_by m (left_by n books) h ≡ left_by n (left_by m books) h
swapped_in n m books apart h =
    elim (held_or_alone n.stamp n.heaps n.steps h) [
      | inl here ↦ (
          let none : (b : Book) → left_in m.stamp m.heaps m.steps h b ≡ b = λ b. left_alone m.stamp m.heaps m.steps h b (λ there. apart h here there) in
          none (left_by n books h) ∙ ap (λ b. left_in n.stamp n.heaps n.steps h b) (sym (none (books h))))
      | inr none ↦ ap (λ b. left_in m.stamp m.heaps m.steps h b) (none (books h)) ∙ sym (none (left_by m books h))
    ]

swapped : (n m : Note) (books : Books) → AreApart n m → left_by m (left_by n books) ≡ left_by n (left_by m books)
swapped n m books apart = λ i h. swapped_in n m books apart h i

-- neighbours of one stamp share no heap
apart_of : (n m : Note) → n.stamp ≡ m.stamp → IsBefore n m → AreApart n m
apart_of n m same before h here there = let less = before.heap h here there in absurd (omega (arith, same, less))

turned : (n m : Note) → n.stamp ≡ m.stamp → IsBefore n m → IsBefore m n
turned n m same before = record {
  stamp = omega (arith, same);
  heap = λ h there here. absurd (apart_of n m same before h here there);
  pass = λ e. let less = before.pass (sym e) in absurd (omega (arith, same, less));
}

all_after-swap : (x n m : Note) (front rest : List Note) → AllAfter x (front ++ n ∷ m ∷ rest) → AllAfter x (front ++ m ∷ n ∷ rest)
all_after-swap x n m [] rest all = (all.1.0, (all.0, all.1.1))
all_after-swap x n m (f ∷ front) rest all = (all.0, all_after-swap x n m front rest all.1)

pub ordered-swap : (front : List Note) (n m : Note) (rest : List Note) → n.stamp ≡ m.stamp → AreOrdered (front ++ n ∷ m ∷ rest) → AreOrdered (front ++ m ∷ n ∷ rest)
ordered-swap [] n m rest same in_order = ((turned n m same in_order.0.0, in_order.1.0), (in_order.0.1, in_order.1.1))
ordered-swap (f ∷ front) n m rest same in_order = (all_after-swap f n m front rest in_order.0, ordered-swap front n m rest same in_order.1)

-- neighbours are before one another
next_to : (front : List Note) (n m : Note) (rest : List Note) → AreOrdered (front ++ n ∷ m ∷ rest) → IsBefore n m
next_to [] n m rest in_order = in_order.0.0
next_to (f ∷ front) n m rest in_order = next_to front n m rest in_order.1

-- calls one after the other, and then others
pub left_by_all-append : (xs ys : List Note) (books : Books) → left_by_all (xs ++ ys) books ≡ left_by_all ys (left_by_all xs books)
left_by_all-append [] ys books = refl
left_by_all-append (x ∷ xs) ys books = left_by_all-append xs ys (left_by x books)

pub left_by_all-swap : (front : List Note) (n m : Note) (rest : List Note) (books : Books) → n.stamp ≡ m.stamp → AreOrdered (front ++ n ∷ m ∷ rest) →
    left_by_all (front ++ n ∷ m ∷ rest) books ≡ left_by_all (front ++ m ∷ n ∷ rest) books
left_by_all-swap [] n m rest books same in_order = ap (left_by_all rest) (swapped n m books (apart_of n m same in_order.0.0))
left_by_all-swap (f ∷ front) n m rest books same in_order = left_by_all-swap front n m rest (left_by f books) same in_order.1

module _ (rule : Rule) (K site : ℕ) where
  pub one_thread : (opening : Books) (notes : List Note) → AreOverLeft rule K site opening notes → IsOneThread rule K site opening notes
  one_thread opening [] over = tt
  one_thread opening (n ∷ notes) over =
      (over [] n notes refl, one_thread (left_by n opening) notes (λ before m after is. over (n ∷ before) m after (ap (λ l. n ∷ l) is)))

  -- a note speaks of the books of its heaps alone
  pub over_same : (n : Note) (f g : Books) → ((h : ℕ) → IsIn h n.heaps → f h ≡ g h) → IsNoteOver rule K site f n → IsNoteOver rule K site g n
  over_same n f g same is = record {
    steps = own_same n.stamp n.heaps n.steps f g same is.steps;
    does = subst (λ found. Does rule K site n.stamp n.asked n.heaps n.answer found n.steps) (map_same n.heaps f g same) is.does;
  }

  swap_apart : (books : Books) (front : List Note) (n m : Note) (rest : List Note) → AreApart n m → IsOneThread rule K site books (front ++ n ∷ m ∷ rest) →
      IsOneThread rule K site books (front ++ m ∷ n ∷ rest)
  swap_apart books [] n m rest apart all = (
    over_same m (left_by n books) books (untouched n m books apart) all.1.0,
    (
      over_same n books (left_by m books) (λ h i. sym (untouched m n books (λ k there here. apart k here there) h i)) all.0,
      subst (λ left. IsOneThread rule K site left rest) (swapped n m books apart) all.1.1,
    ),
  )
  swap_apart books (f ∷ front) n m rest apart all = (all.0, swap_apart (left_by f books) front n m rest apart all.1)

  pub one_thread-swap : (books : Books) (front : List Note) (n m : Note) (rest : List Note) → n.stamp ≡ m.stamp → AreOrdered (front ++ n ∷ m ∷ rest) →
      IsOneThread rule K site books (front ++ n ∷ m ∷ rest) → IsOneThread rule K site books (front ++ m ∷ n ∷ rest)
  one_thread-swap books front n m rest same in_order all = swap_apart books front n m rest (apart_of n m same (next_to front n m rest in_order)) all

  -- a note stands over what those before it left
  pub over_at : (books : Books) (before : List Note) (n : Note) (after : List Note) → IsOneThread rule K site books (before ++ n ∷ after) → IsNoteOver rule K site (left_by_all before books) n
  over_at books [] n after all = all.0
  over_at books (b ∷ before) n after all = over_at (left_by b books) before n after all.1
