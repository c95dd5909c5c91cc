-- Worlds and closed sets: their parts, unions, and sets of the same operations.

use Rattle.std.proofs.Common.{List, None, Some, T, arith, eq-eqb, eqb-true, inl, inr, refl, sym, true, ℕ, ◌&&◌, ◌++◌, ◌<◌, ◌==◌, ◌∙◌, ◌≡◌, ◌≤◌}
use Rattle.std.proofs.lemmas.Bool.{and_from, and_parts, cases_lt}
use Rattle.std.proofs.lemmas.Option.{none-some}
use Rattle.zq_model.proofs.Dots.{dot_left, dot_right, last_above, last_below, same_dot}
use Rattle.zq_model.proofs.Membership.{find_nothing, find_only, find_some, in_left, in_right, in_turned, in_twice, in_union}
use Rattle.zq_model.proofs.Sites.{by_site-at, by_site-past}
use Rattle.zq_model.specs.Operation.{Operation}
use Rattle.zq_model.specs.Sets.{AreSame, HasDot, IsClosed, IsIn, IsVector, IsWorld, SITES, at, is_dot, last, vector_of}

pub world_part : (K : ℕ) (S W : List Operation) → ((o : Operation) → IsIn o S → IsIn o W) → IsWorld K W → IsWorld K S
world_part K S W within world = record {
  each = λ o i. world.each o (within o i);
  one = λ o p i j. world.one o p (within o i) (within p j);
}

pub world_left : (K : ℕ) (S T : List Operation) → IsWorld K (S ++ T) → IsWorld K S
world_left K S T = world_part K S (S ++ T) (λ o. in_left o S T)

pub world_right : (K : ℕ) (S T : List Operation) → IsWorld K (S ++ T) → IsWorld K T
world_right K S T = world_part K T (S ++ T) (λ o. in_right o S T)

pub world_swapped : (K : ℕ) (S T : List Operation) → IsWorld K (S ++ T) → IsWorld K (T ++ S)
world_swapped K S T = world_part K (T ++ S) (S ++ T) (λ o. in_turned o T S)

pub world_twice : (K : ℕ) (S : List Operation) → IsWorld K S → IsWorld K (S ++ S)
world_twice K S = world_part K (S ++ S) S (λ o. in_twice o S)

pub closed_union : (S T : List Operation) → IsClosed S → IsClosed T → IsClosed (S ++ T)
closed_union S T first second = record {
  before = λ o i s n known. elim (in_union o S T i) [
    | inl a ↦ dot_left S T o.heap s n (first.before o a s n known)
    | inr b ↦ dot_right S T o.heap s n (second.before o b s n known)
  ];
}

pub union_turned : (S T : List Operation) → AreSame (S ++ T) (T ++ S)
union_turned S T = record { forth = λ o. in_turned o S T; back = λ o. in_turned o T S }

pub union_twice : (S : List Operation) → AreSame (S ++ S) S
union_twice S = record { forth = λ o. in_twice o S; back = λ o. in_left o S S }

-- every operation of S in the heap h is in W
abbrev pub IsWithin_heap : ℕ → List Operation → List Operation → Type 0
IsWithin_heap h S W = (o : Operation) → IsIn o S → o.heap ≡ h → IsIn o W

pub last_within : (S W : List Operation) (h t : ℕ) → IsWithin_heap h S W → last S h t ≤ last W h t
last_within S W h t within = last_below S h t (last W h t) (λ o i a b. last_above W h t o (within o i a) a b)

pub last_same : (S W : List Operation) (h t : ℕ) → IsWithin_heap h S W → IsWithin_heap h W S → last S h t ≡ last W h t
last_same S W h t forth back =
    let a : last S h t ≤ last W h t = last_within S W h t forth in let b : last W h t ≤ last S h t = last_within W S h t back in omega arith

-- past the sites there are no operations
pub last_past : (K : ℕ) (S : List Operation) (h t : ℕ) → IsWorld K S → SITES ≤ t → last S h t ≡ 0
last_past K S h t world past =
    let most : last S h t ≤ 0 = last_below S h t 0 (λ o i a b. let site : o.site < SITES = (world.each o i).site in absurd (omega arith)) in omega arith

pub vector_is : (K : ℕ) (S : List Operation) (h : ℕ) → IsWorld K S → IsVector (vector_of S h) S h
vector_is K S h world = record {
  counter = λ t. elim (cases_lt t SITES) [
    | inl below ↦ by_site-at (last S h) t 0 below
    | inr past ↦ by_site-past (last S h) t 0 past ∙ sym (last_past K S h t world past)
  ];
}

-- ---- the operation with a dot

pub is_dot_parts : (h s n : ℕ) (o : Operation) → is_dot h s n o ≡ true → (o.heap ≡ h) × (o.site ≡ s) × (o.n ≡ n)
is_dot_parts h s n o e =
    let parts : ((o.heap == h) ≡ true) × (((o.site == s) && (o.n == n)) ≡ true) = and_parts _ _ e in
    let more : ((o.site == s) ≡ true) × ((o.n == n) ≡ true) = and_parts _ _ parts.1 in
    (eqb-true _ _ parts.0, eqb-true _ _ more.0, eqb-true _ _ more.1)

pub is_dot_from : (h s n : ℕ) (o : Operation) → o.heap ≡ h → o.site ≡ s → o.n ≡ n → is_dot h s n o ≡ true
is_dot_from h s n o a b c = and_from _ _ (eq-eqb _ _ a) (and_from _ _ (eq-eqb _ _ b) (eq-eqb _ _ c))

pub at_some : (S : List Operation) (h s n : ℕ) (o : Operation) → at S h s n ≡ Some o → IsIn o S × (o.heap ≡ h) × (o.site ≡ s) × (o.n ≡ n)
at_some S h s n o e =
    let found : IsIn o S × (is_dot h s n o ≡ true) = find_some (is_dot h s n) S o e in
    let parts : (o.heap ≡ h) × (o.site ≡ s) × (o.n ≡ n) = is_dot_parts h s n o found.1 in
    (found.0, parts.0, parts.1, parts.2)

pub at_dot : (K : ℕ) (S : List Operation) (h s n : ℕ) → IsWorld K S → (a : HasDot S h s n) → at S h s n ≡ Some a.0
at_dot K S h s n world a = find_only (is_dot h s n) S a.0 a.1 (is_dot_from h s n a.0 a.2 a.3 a.4)
    (λ y i e. let parts : (y.heap ≡ h) × (y.site ≡ s) × (y.n ≡ n) = is_dot_parts h s n y e in
    same_dot K S h s n world (y, i, parts.0, parts.1, parts.2) a)

pub at_nothing : (S : List Operation) (h s n : ℕ) → (HasDot S h s n → ⊥) → at S h s n ≡ None
at_nothing S h s n none = find_nothing (is_dot h s n) S
    (λ y i e. let parts : (y.heap ≡ h) × (y.site ≡ s) × (y.n ≡ n) = is_dot_parts h s n y e in none (y, i, parts.0, parts.1, parts.2))

-- a set that has the dot answers as a world round it does
pub at_within : (K : ℕ) (S W : List Operation) (h s n : ℕ) → IsWorld K S → IsWorld K W → IsWithin_heap h S W → HasDot S h s n → at W h s n ≡ at S h s n
at_within K S W h s n inner outer within a =
    let there : HasDot W h s n = (a.0, within a.0 a.1 a.2, a.2, a.3, a.4) in
    at_dot K W h s n outer there ∙ sym (at_dot K S h s n inner a)

pub at_same : (K : ℕ) (S T : List Operation) (h s n : ℕ) → IsWorld K S → IsWorld K T → IsWithin_heap h S T → IsWithin_heap h T S → at S h s n ≡ at T h s n
at_same K S T h s n first second forth back =
    elim (at S h s n) as (λ r. at S h s n ≡ r → r ≡ at T h s n) [
      | None ↦ λ e. sym (at_nothing T h s n (λ a.
          let dot : HasDot S h s n = (a.0, back a.0 a.1 a.2, a.2, a.3, a.4) in
          none-some dot.0 (sym e ∙ at_dot K S h s n first dot)))
      | Some o ↦ λ e.
          let found : IsIn o S × (o.heap ≡ h) × (o.site ≡ s) × (o.n ≡ n) = at_some S h s n o e in
          let dot : HasDot S h s n = (o, found.0, found.1, found.2, found.3) in
          sym (at_within K S T h s n first second forth dot ∙ e)
    ] refl
