-- Walks over a list of additions, from its first to its last.

use Rattle.std.proofs.Common.{Bor, inl, inr, ap, arith, drop, get_or, length, sym, take, refl, ◌∙◌, ◌≡◌, ◌≢◌}
use Rattle.std.proofs.lemmas.List.{at_drop_more, drop-drop, drop_all, drop_more, take_more}
use Rattle.std.specs.Int.{from_bool}
use Rattle.std.specs.Option.{option_copied}
use Rattle.std.specs.Prelude.{List, None, Option, Some, [], is_some, map, option_map, option_to_list, pos, ℕ, ℤ, ◌+◌, ◌++◌, ◌<◌, ◌≤◌, ◌∷◌}
use Rattle.std.proofs.lemmas.Bool.{cases_eq}
use Rattle.zq_model.specs.Entry.{Addition, join_site}
use Rattle.zq_model.specs.Rule.{Rule}
use Rattle.zq_model.specs.Sets.{SITES}
use Rattle.zq_model.specs.Score.{preferred_if, value_of}
use Rattle.zq_model.specs.Rows.{OfSite}
use Rattle.zq_entry.specs.Placed.{addition_of_put}
use Rattle.zq_entry.specs.Sparse.{first_at, head_of, lower, rest_at}
use Rattle.zq_model.specs.Sparse.{AreBySite}
use Rattle.zq_entry.proofs.EntryLemmas.{best, combined, combined-more}
use Rattle.zq_entry.proofs.MergeLemmas.{first-here, first-past, merged, merged-push, option_at, rest-here, rest-past, rising-rests}

-- one more addition is copied
pub copied-more : (copies items : List OfSite) (i : ℕ) (p : OfSite) → copies ≡ take i items → i < length items → ((d : OfSite) → p ≡ get_or items i d) → copies ++ p ∷ [] ≡ take (i + 1) items
copied-more copies items i p e l h = ap (λ xs. xs ++ p ∷ []) e ∙ (ap (λ q. take i items ++ q ∷ []) (h p) ∙ sym (take_more items i p l))

-- one more addition is changed
pub mapped-more : (f : OfSite → OfSite) (changed items : List OfSite) (i : ℕ) (p : OfSite) → changed ≡ map f (take i items) → i < length items → ((d : OfSite) → p ≡ f (get_or items i d)) → changed ++ p ∷ [] ≡ map f (take (i + 1) items)
mapped-more f changed items i p e l h =
    ap (λ xs. xs ++ p ∷ []) e ∙ (ap (λ q. map f (take i items) ++ q ∷ []) (h p) ∙ (sym (mapped-end f (take i items) (get_or items i p)) ∙ ap (map f) (sym (take_more items i p l))))
  where
    mapped-end : (f : OfSite → OfSite) (xs : List OfSite) (q : OfSite) → map f (xs ++ q ∷ []) ≡ map f xs ++ f q ∷ []
    mapped-end f [] q = refl
    mapped-end f (x ∷ xs) q = ap (λ ys. f x ∷ ys) (mapped-end f xs q)

-- one more value is compared
pub best-more : (rule : Rule) (so_far : Option ℤ) (items : List OfSite) (i : ℕ) (x : ℤ) → i < length items → ((d : OfSite) → x ≡ value_of (get_or items i d).1)
    → combined rule (Some (preferred_if rule x so_far)) (best rule (map (λ p. value_of p.1) (drop (i + 1) items))) ≡ combined rule so_far (best rule (map (λ p. value_of p.1) (drop i items)))
best-more rule so_far items i x l h =
    let d : OfSite = (0, addition_of_put 0 (pos 0)) in
    combined-more rule so_far x (best rule (map (λ p. value_of p.1) (drop (i + 1) items)))
    ∙ (ap (λ y. combined rule so_far (Some (preferred_if rule y (best rule (map (λ p. value_of p.1) (drop (i + 1) items)))))) (h d)
    ∙ sym (at_drop_more (λ xs. combined rule so_far (best rule (map (λ p. value_of p.1) xs))) items i d l))

-- the site where the list is cut at a place
pub head-here : (items : List OfSite) (i : ℕ) (d : OfSite) → i < length items → head_of (drop i items) ≡ Some (get_or items i d).0
head-here items i d l = ap head_of (drop_more items i d l)

pub head-end : (items : List OfSite) (i : ℕ) → length items ≤ i → head_of (drop i items) ≡ None
head-end items i l = ap head_of (drop_all i items l)

pub first-of_place : (s : ℕ) (items : List OfSite) (i : ℕ) (d : OfSite) → i < length items → (get_or items i d).0 ≡ s → first_at s (drop i items) ≡ Some (get_or items i d).1
first-of_place s items i d l e = ap (first_at s) (drop_more items i d l) ∙ first-here s (get_or items i d) (drop (i + 1) items) e

pub first-not_place : (s : ℕ) (items : List OfSite) (i : ℕ) (d : OfSite) → i < length items → (get_or items i d).0 ≢ s → first_at s (drop i items) ≡ None
first-not_place s items i d l e = ap (first_at s) (drop_more items i d l) ∙ first-past s (get_or items i d) (drop (i + 1) items) e

pub first-at_end : (s : ℕ) (items : List OfSite) (i : ℕ) → length items ≤ i → first_at s (drop i items) ≡ None
first-at_end s items i l = ap (first_at s) (drop_all i items l)

-- ---- two lists of additions

advance : {R : Type 0} (f : R → Addition) (o : Option R) (s k : ℕ) (xs : List OfSite) → option_map f o ≡ first_at s xs → k ≡ from_bool (is_some o) → drop k xs ≡ rest_at s xs
advance f o s k [] e h = drop_all k [] (omega arith)
advance f None s k (p ∷ xs) e h =
    elim (cases_eq p.0 s) [
      | inl same ↦ absurd (let some = first-here s p xs same in cc)
      | inr other ↦ ap (λ n. drop n (p ∷ xs)) h ∙ sym (rest-past s p xs other)
    ]
advance f (Some r) s k (p ∷ xs) e h =
    elim (cases_eq p.0 s) [
      | inl same ↦ ap (λ n. drop n (p ∷ xs)) h ∙ sym (rest-here s p xs same)
      | inr other ↦ absurd (let none = first-past s p xs other in cc)
    ]

-- a walk goes on behind the addition that it has taken
pub advanced : {R : Type 0} (f : R → Addition) (o : Option R) (s i k : ℕ) (items : List OfSite) → option_map f o ≡ first_at s (drop i items) → k ≡ from_bool (is_some o) → drop (i + k) items ≡ rest_at s (drop i items)
advanced f o s i k items e h = sym (drop-drop k i items) ∙ advance f o s k (drop i items) e h

-- what a turn of the join leaves
pub record IsTurn (u v : List ℕ) (a b new done a' b' : List OfSite) : Type 0 where
  pub joined : new ++ merged (join_site u v) a' b' ≡ done ++ merged (join_site u v) a b
  pub mine : AreBySite 0 SITES a'
  pub theirs : AreBySite 0 SITES b'

pub turn : (u v : List ℕ) (s : ℕ) (o : Option Addition) (a b a' b' new done : List OfSite) → AreBySite 0 SITES a → AreBySite 0 SITES b → lower (head_of a) (head_of b) ≡ Some s
    → o ≡ join_site u v s (first_at s a) (first_at s b) → new ≡ done ++ option_at s o → a' ≡ rest_at s a → b' ≡ rest_at s b → IsTurn u v a b new done a' b'
turn u v s o a b a' b' new done r q l e n f g =
    let made = n ∙ ap (λ p. done ++ option_at s p) e in
    let rests = rising-rests s a b r q l in
    rw (f, g) (record {
      joined = ap (λ zs. zs ++ merged (join_site u v) (rest_at s a) (rest_at s b)) made ∙ merged-push (join_site u v) done s a b (λ t. refl) r q l;
      mine = rests.0;
      theirs = rests.1;
    })

-- an addition at its site, or none
pub placed-some : (s : ℕ) (o : Option Addition) (r : Option OfSite) (p : OfSite) → r ≡ option_map (λ a. (s, a)) o → r ≡ Some p → option_at s o ≡ p ∷ []
placed-some s None r p e h = absurd (cc)
placed-some s (Some a) r p e h = let same : Some (s, a) ≡ Some p = sym e ∙ h in ap (λ x. option_to_list x) same

pub placed-none : (s : ℕ) (o : Option Addition) (r : Option OfSite) → r ≡ option_map (λ a. (s, a)) o → r ≡ None → option_at s o ≡ []
placed-none s None r e h = refl
placed-none s (Some a) r e h = absurd (let same : Some (s, a) ≡ None = sym e ∙ h in cc)

-- a look through an option's reference
pub through : {X : Type 0} {Y : Type 0} (f : X → Y) (o : Option (Bor X)) → option_map (λ a. f a.now) o ≡ option_map f (option_copied o)
through f None = refl
through f (Some a) = refl

-- what is made of the only one is what is made of all
pub mapped-only : (f : OfSite → OfSite) (items : List OfSite) (p q : OfSite) → length items ≡ 1 → ((d : OfSite) → p ≡ get_or items 0 d) → q ≡ f p → q ∷ [] ≡ map f items
mapped-only f [] p q one is made = absurd (omega (arith, one))
mapped-only f (x ∷ []) p q one is made = ap (λ y. y ∷ []) (made ∙ ap f (is p))
mapped-only f (x ∷ y ∷ items) p q one is made = absurd (omega (arith, one))
