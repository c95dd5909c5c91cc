-- The tail of a book, as calls leave it, has the operations of the set that the base has not.

use Rattle.std.proofs.Common.{ap, arith, inl, inr, refl, subst, sym, take-append-drop, ◌∙◌}
use Rattle.std.proofs.lemmas.List.{map-append}
use Rattle.std.specs.Prelude.{List, [], drop, take, ℕ, ◌++◌, ◌∷◌, ◌≡◌, ◌⊎◌}
use Rattle.zq_model.specs.Books.{Book, Change, Record, merged, operation_of, operations_of, recorded, steps_image, steps_of, taken_over}
use Rattle.zq_model.specs.Reach.{begun, cut_of}
use Rattle.zq_model.proofs.Membership.{in_left, in_right, in_union}
use Rattle.zq_model.proofs.TailSets.{tail_closed, tail_replayed}
use Rattle.zq_model.proofs.Worlds.{last_same, world_part}
use Rattle.zq_model.specs.Image.{Image, image_after, image_of, join}
use Rattle.zq_model.specs.Operation.{Operation}
use Rattle.zq_model.specs.Sets.{IsClosed, IsIn, IsNew, IsWorld, last}
use Rattle.zq_model.specs.Tail.{IsTail, image_after_all, tail_set}
use Rattle.zq_notes.specs.Gathered.{HasTailOf}

-- ---- sets with tails

pub in_tail_set : (x : Operation) (S tail : List Operation) → IsIn x (tail_set S tail) → IsIn x S ⊎ IsIn x tail
in_tail_set x S [] i = inl i
in_tail_set x S (o ∷ tail) i = elim (in_tail_set x (o ∷ S) tail i) [
  | inl j ↦ elim j [ inl e ↦ inr (inl e) | inr there ↦ inl there ]
  | inr j ↦ inr (inr j)
]

tail_set-append : (S xs ys : List Operation) → tail_set S (xs ++ ys) ≡ tail_set (tail_set S xs) ys
tail_set-append S [] ys = refl
tail_set-append S (o ∷ xs) ys = tail_set-append (o ∷ S) xs ys

tail_front : (h : ℕ) (S xs ys : List Operation) → IsTail h S (xs ++ ys) → IsTail h S xs
tail_front h S [] ys tailed = tt
tail_front h S (o ∷ xs) ys tailed = (tailed.0, tailed.1, tail_front h (o ∷ S) xs ys tailed.2)

tail_back : (h : ℕ) (S xs ys : List Operation) → IsTail h S (xs ++ ys) → IsTail h (tail_set S xs) ys
tail_back h S [] ys tailed = tailed
tail_back h S (o ∷ xs) ys tailed = tail_back h (o ∷ S) xs ys tailed.2

tail_both : (h : ℕ) (S xs ys : List Operation) → IsTail h S xs → IsTail h (tail_set S xs) ys → IsTail h S (xs ++ ys)
tail_both h S [] ys first second = second
tail_both h S (o ∷ xs) ys first second = (first.0, first.1, tail_both h (o ∷ S) xs ys first.2 second)

replays : (tail : List Record) (a : Image) → steps_image (steps_of tail) a ≡ image_after_all (operations_of tail) a
replays [] a = refl
replays (r ∷ tail) a = replays tail (image_after (operation_of r.change) a)

-- ---- a book whose base has all

pub all_in_base : (S : List Operation) (h : ℕ) (b : Book) → IsClosed S → b.base ≡ image_of S h → b.tail ≡ [] → HasTailOf S h b
all_in_base S h b closed base none =
    let nothing : operations_of b.tail ≡ [] = ap operations_of none in
    record {
      start = S;
      within = λ o i. i;
      closed = closed;
      base = base;
      tailed = subst (IsTail h S) (sym nothing) tt;
      told = λ o i. absurd (subst (IsIn o) nothing i);
      all = λ o i at. subst (λ t. IsIn o (tail_set S t)) (sym nothing) i;
    }

-- the set may get more in other heaps
pub tail_wider : (S T : List Operation) (h : ℕ) (b : Book) → ((o : Operation) → IsIn o S → IsIn o T) → ((o : Operation) → IsIn o T → o.heap ≡ h → IsIn o S) → HasTailOf S h b → HasTailOf T h b
tail_wider S T h b more same is = record {
  start = is.start;
  within = λ o i. more o (is.within o i);
  closed = is.closed;
  base = is.base;
  tailed = is.tailed;
  told = λ o i. more o (is.told o i);
  all = λ o i at. is.all o (same o i at) at;
}

module _ (K : ℕ) (W : List Operation) (world : IsWorld K W) (h : ℕ) where
  -- ---- a call begins

  module _ (S : List Operation) (within : (o : Operation) → IsIn o S → IsIn o W) (stamp : ℕ) (b : Book) (is : HasTailOf S h b) where
    abbrev cut : ℕ
    cut = cut_of b

    abbrev front : List Operation
    front = operations_of (take cut b.tail)

    abbrev back : List Operation
    back = operations_of (drop cut b.tail)

    parts : operations_of b.tail ≡ front ++ back
    parts = ap operations_of (sym (take-append-drop cut b.tail)) ∙ map-append (λ (r : Record). operation_of r.change) (take cut b.tail) (drop cut b.tail)

    in_front : (o : Operation) → IsIn o front → IsIn o S
    in_front o i = is.told o (subst (IsIn o) (sym parts) (in_left o front back i))

    in_start : (o : Operation) → IsIn o (tail_set is.start front) → IsIn o S
    in_start o i = elim (in_tail_set o is.start front i) [ inl j ↦ is.within o j | inr j ↦ in_front o j ]

    tailed_parts : IsTail h is.start (front ++ back)
    tailed_parts = subst (IsTail h is.start) parts is.tailed

    small : IsWorld K (tail_set is.start front)
    small = world_part K (tail_set is.start front) W (λ o i. within o (in_start o i)) world

    pub tail_begun : HasTailOf S h (begun stamp b)
    tail_begun = record {
      start = tail_set is.start front;
      within = in_start;
      closed = tail_closed K h is.start front small is.closed (tail_front h is.start front back tailed_parts);
      base = ap (λ a. steps_image (steps_of (take cut b.tail)) a) is.base ∙ replays (take cut b.tail) (image_of is.start h)
          ∙ tail_replayed K h is.start front small is.closed (tail_front h is.start front back tailed_parts);
      tailed = tail_back h is.start front back tailed_parts;
      told = λ o i. is.told o (subst (IsIn o) (sym parts) (in_right o front back i));
      all = λ o i at. subst (IsIn o) (ap (tail_set is.start) parts ∙ tail_set-append is.start front back) (is.all o i at);
    }

  -- ---- a step

  pub tail_recorded : (S : List Operation) (b : Book) (stamp : ℕ) (c : Change) → IsNew S (operation_of c) → (operation_of c).heap ≡ h → HasTailOf S h b → HasTailOf (operation_of c ∷ S) h (recorded b stamp c)
  tail_recorded S b stamp c new at is =
      let o : Operation = operation_of c in
      let xs : List Operation = operations_of b.tail in
      let U : List Operation = tail_set is.start xs in
      let longer : operations_of (b.tail ++ record { stamp = stamp; change = c } ∷ []) ≡ xs ++ o ∷ [] = map-append (λ (r : Record). operation_of r.change) b.tail (record { stamp = stamp; change = c } ∷ []) in
      let same : (t : ℕ) → last S o.heap t ≡ last U o.heap t = λ t. last_same S U o.heap t
      (λ p i there. is.all p i (there ∙ at))
      (λ p i there. elim (in_tail_set p is.start xs i) [ inl j ↦ is.within p j | inr j ↦ is.told p j ]) in
      let newer : IsNew U o = record {
        covered = λ t. let low = new.covered t in let eq = same t in omega (arith, low, eq);
        fresh = let low = new.fresh in let eq = same o.site in omega (arith, low, eq);
      } in
      record {
        start = is.start;
        within = λ p i. inr (is.within p i);
        closed = is.closed;
        base = is.base;
        tailed = subst (IsTail h is.start) (sym longer) (tail_both h is.start xs (o ∷ []) is.tailed (newer, at, tt));
        told = λ p i. elim (in_union p xs (o ∷ []) (subst (IsIn p) longer i)) [
          | inl j ↦ inr (is.told p j)
          | inr j ↦ elim j [ inl e ↦ inl e | inr none ↦ absurd none ]
        ];
        all = λ p i there. subst (IsIn p) (sym (ap (tail_set is.start) longer ∙ tail_set-append is.start xs (o ∷ [])))
            (elim i [ inl e ↦ inl e | inr j ↦ inr (is.all p j there) ]);
      }

  pub tail_merged : (T : List Operation) (b : Book) (stamp : ℕ) (other : Image) → IsClosed T → join b.state other ≡ image_of T h → HasTailOf T h (merged b stamp other)
  tail_merged T b stamp other closed image = all_in_base T h (merged b stamp other) closed image refl

  pub tail_taken_over : (T : List Operation) (b : Book) (stamp : ℕ) (other : Image) → IsClosed T → other ≡ image_of T h → HasTailOf T h (taken_over b stamp other)
  tail_taken_over T b stamp other closed image = all_in_base T h (taken_over b stamp other) closed image refl
