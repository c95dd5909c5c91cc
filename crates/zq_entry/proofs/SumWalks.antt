-- The steps by which sums are joined and bumped.

use Rattle.std.proofs.Common.{inl, inr, ap, append_assoc, arith, cond, drop, false, subst, sym, take, true, ◌∙◌, ◌≡◌}
use Rattle.std.proofs.lemmas.Bool.{cases_Bool}
use Rattle.std.proofs.lemmas.Bool.Decides.{Decides-int_eq}
use Rattle.std.proofs.lemmas.Int.{to_z-of_z}
use Rattle.std.specs.Int.{w128, w64}
use Rattle.std.specs.List.{AllByRecursion}
use Rattle.std.specs.Ordering.{int_eq}
use Rattle.std.specs.Prelude.{List, None, Option, Some, [], nat_lt, pos, slice_index, slice_index_or, ℕ, ℤ, ◌*◌, ◌++◌, ◌+ℤ◌, ◌-◌, ◌<◌, ◌≤◌, ◌∷◌, ◌≢◌}
use mir.Val.{SFits, of_z, to_z}
use Rattle.zq_model.specs.Operation.{IsWithin, MOST}
use Rattle.zq_model.specs.Sets.{LAST, SITES}
use Rattle.zq_entry.specs.Sparse.{first_at, head_of, lower, place_in, rest_at}
use Rattle.zq_model.specs.Sparse.{AreBySite}
use Rattle.zq_entry.specs.Sums.{AreSums, IsSum, MOST_SUM, dense_sums, sum_found, sum_joined, sum_kept, sums_bumped}
use Rattle.zq_entry.proofs.MergeLemmas.{merged, merged-push, option_at, rising-rests}
use Rattle.zq_entry.proofs.ReplaceLemmas.{each-first, each-replaced, each-rest, first-at_place, replaced, rising-replaced}
use Rattle.zq_model.proofs.Sites.{by_site-at}
use Rattle.zq_entry.proofs.SumLemmas.{bump-within, bumped-dense, counter-within, nothing-joined, or_zero}

each-append : (xs ys : List (ℕ × ℤ)) → AllByRecursion IsSum xs → AllByRecursion IsSum ys → AllByRecursion IsSum (xs ++ ys)
each-append [] ys h k = k
each-append (x ∷ xs) ys h k = (h.0, each-append xs ys h.1 k)

each-option : (s : ℕ) (o : Option ℤ) → ((x : ℤ) → o ≡ Some x → IsSum (s, x)) → AllByRecursion IsSum (option_at s o)
each-option s None h = tt
each-option s (Some x) h = (h x refl', tt)
  where
    refl' : Some x ≡ Some x
    refl' = cc

-- the sum of a site of two lists is one of theirs
joined-is_sum : (u v : List ℕ) (s : ℕ) (xs ys : List (ℕ × ℤ)) (x : ℤ) → AllByRecursion IsSum xs → AllByRecursion IsSum ys → sum_joined u v s (first_at s xs) (first_at s ys) ≡ Some x → IsSum (s, x)
joined-is_sum u v s xs ys x h k e =
    elim (cases_Bool (nat_lt (slice_index u s) (slice_index v s))) [
      | inl more ↦ each-first IsSum s x ys k (ap (λ b. cond b (first_at s ys) (first_at s xs)) (sym more) ∙ e)
      | inr less ↦ each-first IsSum s x xs h (ap (λ b. cond b (first_at s ys) (first_at s xs)) (sym less) ∙ e)
    ]

-- what a turn of the join leaves
pub record IsTurn (u v : List ℕ) (xs ys new done xs' ys' : List (ℕ × ℤ)) : Type 0 where
  pub joined : new ++ merged (sum_joined u v) xs' ys' ≡ done ++ merged (sum_joined u v) xs ys
  pub each : AllByRecursion IsSum new
  pub mine : AreSums xs'
  pub theirs : AreSums ys'

pub turn : (u v : List ℕ) (s : ℕ) (o : Option ℤ) (xs ys new done : List (ℕ × ℤ)) → AreSums xs → AreSums ys → AllByRecursion IsSum done → lower (head_of xs) (head_of ys) ≡ Some s
    → o ≡ sum_joined u v s (first_at s xs) (first_at s ys) → new ≡ done ++ option_at s o → IsTurn u v xs ys new done (rest_at s xs) (rest_at s ys)
turn u v s o xs ys new done h k d l e n =
    let made = n ∙ ap (λ p. done ++ option_at s p) e in
    let rests = rising-rests s xs ys h.rising k.rising l in
    record {
      joined = ap (λ zs. zs ++ merged (sum_joined u v) (rest_at s xs) (rest_at s ys)) made ∙ merged-push (sum_joined u v) done s xs ys (nothing-joined u v) h.rising k.rising l;
      each = rw n (each-append done (option_at s o) d (each-option s o (λ x is. joined-is_sum u v s xs ys x h.each k.each (sym e ∙ is))));
      mine = record { rising = rests.0; each = each-rest IsSum s xs h.each };
      theirs = record { rising = rests.1; each = each-rest IsSum s ys k.each };
    }

-- ---- a Bump

-- what stood of the site
pub old-sum : (s k : ℕ) (sums rest : List (ℕ × ℤ)) (o : Option ℤ) → AreBySite 0 SITES sums → k ≡ place_in s sums → rest ≡ drop k sums → o ≡ first_at s rest → or_zero o ≡ sum_found s sums
old-sum s k sums rest o r e f g =
    ap or_zero (g ∙ (ap (first_at s) (f ∙ ap (λ i. drop i sums) e) ∙ first-at_place s 0 sums r))

-- the new sum is in range
pub new-sum : (s n : ℕ) (sums : List (ℕ × ℤ)) (x i : ℤ) → s < SITES → 1 ≤ n → n ≤ LAST → x ≡ sum_found s sums → IsWithin (MOST * (n - 1)) (slice_index_or (dense_sums sums) s (pos 0)) → IsWithin MOST i → IsWithin MOST_SUM (x +ℤ i)
new-sum s n sums x i l a b e h k =
    let kept = by_site-at (λ r. sum_found r sums) s (pos 0) l in
    counter-within n (x +ℤ i) b (bump-within n x i a (rw (e, ← kept) h) k)

-- the sum of an i128 and a widened i64
pub sum-bits : (x f v i : ℤ) → SFits w128 x → SFits w64 v → SFits w128 f → f ≡ to_z w64 (of_z w64 v) → v ≡ i → to_z w128 (of_z w128 x) +ℤ to_z w128 (of_z w128 f) ≡ x +ℤ i
sum-bits x f v i a b c e h =
    ap (λ y. y +ℤ to_z w128 (of_z w128 f)) (to_z-of_z w128 x a) ∙ ap (λ y. x +ℤ y) (to_z-of_z w128 f c ∙ (e ∙ (to_z-of_z w64 v b ∙ h)))

-- the list that is built is the one with the site's sum replaced
built : (s k : ℕ) (o : Option ℤ) (sums rest before after : List (ℕ × ℤ)) → k ≡ place_in s sums → before ≡ take k sums → rest ≡ drop k sums → after ≡ rest_at s rest → before ++ (option_at s o ++ after) ≡ replaced s o sums
built s k o sums rest before after e b r a =
    ap (λ zs. zs ++ (option_at s o ++ after)) (b ∙ ap (λ i. take i sums) e) ∙ ap (λ zs. take (place_in s sums) sums ++ (option_at s o ++ zs)) (a ∙ ap (rest_at s) (r ∙ ap (λ i. drop i sums) e))

-- sums with one of them replaced are sums
replaced-sums : (s : ℕ) (o : Option ℤ) (sums : List (ℕ × ℤ)) → s < SITES → AreSums sums → ((x : ℤ) → o ≡ Some x → IsSum (s, x)) → AreSums (replaced s o sums)
replaced-sums s o sums l h k = record { rising = rising-replaced 0 s o sums (omega arith) l h.rising; each = each-replaced IsSum s o sums k h.each }

-- these are the sums after a Bump of the site s by i
pub record IsBumped (s : ℕ) (i : ℤ) (sums all : List (ℕ × ℤ)) : Type 0 where
  pub are_sums : AreSums all
  pub view : dense_sums all ≡ sums_bumped s i (dense_sums sums)

bumped-option : (s k : ℕ) (i : ℤ) (o : Option ℤ) (sums rest before after : List (ℕ × ℤ)) → s < SITES → AreSums sums → k ≡ place_in s sums → before ≡ take k sums → rest ≡ drop k sums → after ≡ rest_at s rest
    → or_zero o ≡ sum_found s sums +ℤ i → ((x : ℤ) → o ≡ Some x → IsSum (s, x)) → IsBumped s i sums (before ++ (option_at s o ++ after))
bumped-option s k i o sums rest before after l h e b r a x y =
    let is = built s k o sums rest before after e b r a in
    record { are_sums = rw is (replaced-sums s o sums l h y); view = ap dense_sums is ∙ bumped-dense s i o sums h.rising x }

-- with the site's new sum in its place, or none where it has come to 0
bumped-kept : (s k : ℕ) (i sum : ℤ) (sums rest before after : List (ℕ × ℤ)) → s < SITES → AreSums sums → k ≡ place_in s sums → before ≡ take k sums → rest ≡ drop k sums → after ≡ rest_at s rest
    → sum ≡ sum_found s sums +ℤ i → IsWithin MOST_SUM sum → IsBumped s i sums (before ++ (sum_kept s sum ++ after))
bumped-kept s k i sum sums rest before after l h e b r a x z =
    elim (cases_Bool (int_eq sum (pos 0))) [
      | inl zero' ↦
          let kept : sum_kept s sum ≡ [] = ap (λ b. cond b [] ((s, sum) ∷ [])) zero' in
          let none : sum ≡ pos 0 = (Decides-int_eq sum (pos 0)).0 zero' in
          subst (λ l. IsBumped s i sums (before ++ (l ++ after))) (sym kept) (bumped-option s k i None sums rest before after l h e b r a (sym none ∙ x) (λ t is. absurd (cc)))
      | inr other ↦
          let kept : sum_kept s sum ≡ (s, sum) ∷ [] = ap (λ b. cond b [] ((s, sum) ∷ [])) other in
          let some : sum ≢ pos 0 = λ is. absurd (let no : true ≡ false = sym ((Decides-int_eq sum (pos 0)).1 is) ∙ other in cc) in
          subst (λ l. IsBumped s i sums (before ++ (l ++ after))) (sym kept) (bumped-option s k i (Some sum) sums rest before after l h e b r a x (λ t is. let same : sum ≡ t = cc in rw (← same) (some, z)))
    ]

-- where a Bump with the counter n finds o of its site
pub bumped : (s n k : ℕ) (i sum : ℤ) (o : Option ℤ) (sums rest before after : List (ℕ × ℤ)) → s < SITES → (1 ≤ n) × (n ≤ LAST) → AreSums sums → IsWithin (MOST * (n - 1)) (slice_index_or (dense_sums sums) s (pos 0)) → IsWithin MOST i
    → k ≡ place_in s sums → before ≡ take k sums → rest ≡ drop k sums → o ≡ first_at s rest → after ≡ rest_at s rest → sum ≡ or_zero o +ℤ i → SFits w128 sum → IsBumped s i sums (before ++ sum_kept s (to_z w128 (of_z w128 sum)) ++ after)
bumped s n k i sum o sums rest before after below counter are room amount e b r f a x fits =
    let old = old-sum s k sums rest o are.rising e r f in
    let in_range = new-sum s n sums (or_zero o) i below counter.0 counter.1 old room amount in
    let made = bumped-kept s k i sum sums rest before after below are e b r a (x ∙ ap (λ y. y +ℤ i) old) (rw x in_range) in
    rw (to_z-of_z w128 sum fits) (subst (IsBumped s i sums) (sym (append_assoc before (sum_kept s sum) after)) made)
