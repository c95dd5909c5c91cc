-- What a vector tells of an operation: known, new or early.

use Rattle.std.proofs.Common.{Bool, List, arith, cond, false, get_or, inl, inr, le-leb, le_refl, leb, leb-true, length, refl, subst, suc, sym, true, true≢false, zero, ℕ, ⊎_elim, ◌+◌, ◌<◌, ◌∙◌, ◌∷◌, ◌≡◌, ◌≤◌}
use Rattle.std.proofs.lemmas.Bool.{and_from, and_parts, cases_eq, cases_lt, cond-false, cond-true}
use Rattle.std.proofs.lemmas.List.{get_or_past}
use Rattle.std.specs.List.{list_all, range_with_len}
use Rattle.zq_model.proofs.Dots.{counter_positive, dot_last, dots_below, has_from, has_not, has_parts, last_above}
use Rattle.zq_model.proofs.NewOperation.{world_rest}
use Rattle.zq_model.specs.Operation.{Operation, has}
use Rattle.zq_model.specs.Sets.{Early, HasAllSeen, HasDot, IsClosed, IsIn, IsNew, IsVector, IsWorld, Known, New, SITES, covers, last, taken_of}

all_range : (p : ℕ → Bool) (a n : ℕ) → ((t : ℕ) → a ≤ t → t < a + n → p t ≡ true) → list_all p (range_with_len a n) ≡ true
all_range p a zero each = refl
all_range p a (suc n) each = and_from _ _ (each a (omega arith) (omega arith)) (all_range p (a + 1) n (λ t low high. each t (omega arith) (omega arith)))

range_all : (p : ℕ → Bool) (a n t : ℕ) → list_all p (range_with_len a n) ≡ true → a ≤ t → t < a + n → p t ≡ true
range_all p a zero t all low high = absurd (omega arith)
range_all p a (suc n) t all low high =
    let parts : (p a ≡ true) × (list_all p (range_with_len (a + 1) n) ≡ true) = and_parts _ _ all in
    ⊎_elim (λ same. subst (λ x. p x ≡ true) same parts.0) (λ apart. range_all p (a + 1) n t parts.1 (omega arith) (omega arith)) (cases_eq a t)

pub covers_at : (v u : List ℕ) (t : ℕ) → covers v u ≡ true → t < SITES → get_or u t 0 ≤ get_or v t 0
covers_at v u t all below = leb-true _ _ (range_all (λ r. leb (get_or u r 0) (get_or v r 0)) 0 SITES t all (omega arith) (omega arith))

pub covers_from : (v u : List ℕ) → ((t : ℕ) → t < SITES → get_or u t 0 ≤ get_or v t 0) → covers v u ≡ true
covers_from v u each = all_range _ 0 SITES (λ t low high. le-leb _ _ (each t (omega arith)))

-- ---- what an answer says

pub taken_known : (v : List ℕ) (o : Operation) → taken_of v o ≡ Known → has v o.site o.n ≡ true
taken_known v o =
    elim (has v o.site o.n) as (λ b. cond b Known (cond (covers v o.seen) New Early) ≡ Known → b ≡ true) [
      | true ↦ λ e. refl
      | false ↦ elim (covers v o.seen) as (λ c. cond c New Early ≡ Known → false ≡ true) [ true ↦ λ e. cc | false ↦ λ e. cc ]
    ]

pub taken_new : (v : List ℕ) (o : Operation) → taken_of v o ≡ New → (has v o.site o.n ≡ false) × (covers v o.seen ≡ true)
taken_new v o =
    elim (has v o.site o.n) as (λ b. cond b Known (cond (covers v o.seen) New Early) ≡ New → (b ≡ false) × (covers v o.seen ≡ true)) [
      | true ↦ λ e. absurd (cc)
      | false ↦ elim (covers v o.seen) as (λ c. cond c New Early ≡ New → (false ≡ false) × (c ≡ true)) [ true ↦ λ e. (refl, refl) | false ↦ λ e. absurd (cc) ]
    ]

pub taken_early : (v : List ℕ) (o : Operation) → taken_of v o ≡ Early → (has v o.site o.n ≡ false) × (covers v o.seen ≡ false)
taken_early v o =
    elim (has v o.site o.n) as (λ b. cond b Known (cond (covers v o.seen) New Early) ≡ Early → (b ≡ false) × (covers v o.seen ≡ false)) [
      | true ↦ λ e. absurd (cc)
      | false ↦ elim (covers v o.seen) as (λ c. cond c New Early ≡ Early → (false ≡ false) × (c ≡ false)) [ true ↦ λ e. absurd (cc) | false ↦ λ e. (refl, refl) ]
    ]

pub taken_from : (v : List ℕ) (o : Operation) → has v o.site o.n ≡ false → covers v o.seen ≡ true → taken_of v o ≡ New
taken_from v o unknown covered = cond-false _ _ _ unknown ∙ cond-true _ _ _ covered

-- ---- over the set whose vector it is

module _ (K : ℕ) (S : List Operation) (o : Operation) (v : List ℕ) (world : IsWorld K (o ∷ S)) (closed : IsClosed S) (vector : IsVector v S o.heap) where
  pub known_here : has v o.site o.n ≡ true → IsIn o S
  known_here known =
      let parts : (0 < o.n) × (o.n ≤ get_or v o.site 0) = has_parts v o.site o.n known in
      let is : get_or v o.site 0 ≡ last S o.heap o.site = vector.counter o.site in
      let dot : HasDot S o.heap o.site o.n = dots_below K S o.heap o.site o.n (world_rest K S o world) closed parts.0 (omega arith) in
      let same : dot.0 ≡ o = world.one dot.0 o (inr dot.1) (inl refl) dot.2 dot.3 dot.4 in
      subst (λ x. IsIn x S) same dot.1

  here_known : IsIn o S → has v o.site o.n ≡ true
  here_known i =
      let inside : o.n ≤ last S o.heap o.site = last_above S o.heap o.site o i refl refl in
      let is : get_or v o.site 0 ≡ last S o.heap o.site = vector.counter o.site in
      has_from v o.site o.n (counter_positive K (o ∷ S) o world (inl refl)) (omega arith)

  seen_covered : HasAllSeen S o → covers v o.seen ≡ true
  seen_covered seen = covers_from v o.seen (λ t _. elim (cases_lt 0 (get_or o.seen t 0)) [
    | inl some ↦
        let dot : HasDot S o.heap t (get_or o.seen t 0) = seen t (get_or o.seen t 0) (has_from o.seen t (get_or o.seen t 0) some (le_refl _)) in
        let inside : get_or o.seen t 0 ≤ last S o.heap t = dot_last S o.heap t (get_or o.seen t 0) dot in
        let is : get_or v t 0 ≡ last S o.heap t = vector.counter t in omega arith
    | inr none ↦ omega arith
  ])

  pub new_from : has v o.site o.n ≡ false → covers v o.seen ≡ true → IsNew S o
  new_from unknown covered = record {
    covered = λ t.
        let is : get_or v t 0 ≡ last S o.heap t = vector.counter t in
        let wide : length o.seen ≡ SITES = (world.each o (inl refl)).seen.wide in
        elim (cases_lt t SITES) [
          | inl below ↦ let least : get_or o.seen t 0 ≤ get_or v t 0 = covers_at v o.seen t covered below in omega arith
          | inr past ↦ let nothing : get_or o.seen t 0 ≡ 0 = get_or_past o.seen t 0 (omega arith) in omega arith
        ];
    fresh =
        let is : get_or v o.site 0 ≡ last S o.heap o.site = vector.counter o.site in
        let above : get_or v o.site 0 < o.n = has_not v o.site o.n unknown (counter_positive K (o ∷ S) o world (inl refl)) in omega arith;
  }

  pub taking_new : taken_of v o ≡ New → IsNew S o
  taking_new e = let parts : (has v o.site o.n ≡ false) × (covers v o.seen ≡ true) = taken_new v o e in new_from parts.0 parts.1

  pub early_outside : taken_of v o ≡ Early → (IsIn o S → ⊥) × (HasAllSeen S o → ⊥)
  early_outside e =
      let parts : (has v o.site o.n ≡ false) × (covers v o.seen ≡ false) = taken_early v o e in
      (λ i. true≢false (sym (here_known i) ∙ parts.0), λ seen. true≢false (sym (seen_covered seen) ∙ parts.1))
