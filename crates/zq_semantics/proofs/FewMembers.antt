-- How many members a key can have in what a set of operations means: each has a live Put, and no two of them one dot.

use Rattle.std.proofs.Common.{Less, List, [], ap, arith, eqb-true, false, inl, inr, length, refl, subst, sym, true, ℕ, ◌*◌, ◌+◌, ◌<◌, ◌==◌, ◌∙◌, ◌∷◌, ◌≡◌, ◌≤◌}
use Rattle.std.proofs.lemmas.Bool.{and_parts, false_from_ne_true, or_cases}
use Rattle.std.proofs.lemmas.Map.Steps.{length-le_from_distinct_below}
use Rattle.std.specs.Cmp.Lexicographic.{pointwise}
use Rattle.std.specs.List.{AllByRecursion, IsDistinct, list_any}
use Rattle.std.specs.Prelude.{nat_eq}
use Rattle.zq_model.proofs.MeantQueues.{heap_in_range}
use Rattle.zq_model.proofs.Places.{same_bytes}
use Rattle.zq_model.proofs.Rising.{not_below_itself}
use Rattle.zq_model.specs.Meaning.{IsLive, IsRising, IsWholeQueue, Scored, scored_cmp, value_of_put}
use Rattle.zq_model.specs.Operation.{Operation}
use Rattle.zq_model.specs.Rule.{Rule}
use Rattle.zq_model.specs.Sets.{IsIn, IsWorld, LAST, SITES}

-- a number for each dot of each heap
abbrev code : Operation → ℕ
code o = (o.heap * 64 + o.site) * 281474976710656 + o.n

module _ (K : ℕ) (S : List Operation) (world : IsWorld K S) (key : List ℕ) where
  -- the Put that gives a pair its score
  abbrev Reached : Scored → Type 0
  Reached y = (p : Operation) × IsLive S key y.1 p × (value_of_put S p ≡ y.0)

  inside : (p : Operation) → IsIn p S → (p.heap < 16) × (p.site < 64) × (p.n < 281474976710656)
  unfolding SITES LAST
  inside p here =
      let its = world.each p here in
      let some = its.heaps.0 in
      let few = its.heaps.1 in
      let low = heap_in_range p.key p.member K (omega (arith, some)) in
      let heap = its.heap in
      let site = its.site in
      let n = its.bounded in
      (omega (arith, heap, low, few), omega (arith, site), omega (arith, n))

  apart : (p o : Operation) → IsIn p S → IsIn o S → code p ≡ code o → p ≡ o
  apart p o here there same =
      let a = inside p here in
      let b = inside o there in
      let ps = a.1 in
      let pn = a.2 in
      let os = b.1 in
      let on = b.2 in
      let n : p.n ≡ o.n = omega (arith, same, pn, on) in
      let site : p.site ≡ o.site = omega (arith, same, n, ps, os) in
      let heap : p.heap ≡ o.heap = omega (arith, same, n, site) in
      world.one p o here there heap site n

  one_pair : (y z : Scored) (a : Reached y) (b : Reached z) → code a.0 ≡ code b.0 → y ≡ z
  one_pair y z a b same =
      let p : a.0 ≡ b.0 = apart a.0 b.0 a.1.here b.1.here same in
      let score : y.0 ≡ z.0 = sym a.2 ∙ ap (value_of_put S) p ∙ b.2 in
      let mine : a.0.member ≡ y.1 = same_bytes _ _ (and_parts (pointwise nat_eq a.0.key key) (pointwise nat_eq a.0.member y.1) a.1.on).1 in
      let theirs : b.0.member ≡ z.1 = same_bytes _ _ (and_parts (pointwise nat_eq b.0.key key) (pointwise nat_eq b.0.member z.1) b.1.on).1 in
      let member : y.1 ≡ z.1 = sym mine ∙ ap (λ (o : Operation). o.member) p ∙ theirs in
      λ i. (score i, member i)

  abbrev codes : (q : List Scored) → ((y : Scored) → IsIn y q → Reached y) → List ℕ
  codes [] from = []
  codes (y ∷ q) from = code (from y (inl refl)).0 ∷ codes q (λ z here. from z (inr here))

  codes_long : (q : List Scored) (from : (y : Scored) → IsIn y q → Reached y) → length (codes q from) ≡ length q
  codes_long [] from = refl
  codes_long (y ∷ q) from = let rest = codes_long q (λ z here. from z (inr here)) in omega (arith, rest)

  unlike : (y : Scored) (a : Reached y) (q : List Scored) (from : (z : Scored) → IsIn z q → Reached z) → ((z : Scored) → IsIn z q → scored_cmp y z ≡ Less) →
      AllByRecursion (λ c. (code a.0 == c) ≡ false) (codes q from)
  unlike y a [] from below = tt
  unlike y a (z ∷ q) from below = (
    false_from_ne_true _ (λ same. not_below_itself y (subst (λ w. scored_cmp y w ≡ Less) (sym (one_pair y z a (from z (inl refl)) (eqb-true _ _ same))) (below z (inl refl)))),
    unlike y a q (λ w here. from w (inr here)) (λ w here. below w (inr here)),
  )

  distinct : (q : List Scored) (from : (y : Scored) → IsIn y q → Reached y) → IsRising q → IsDistinct (λ a b. a == b) (codes q from)
  unfolding IsDistinct
  distinct [] from rising = tt
  distinct (y ∷ q) from rising =
      (unlike y (from y (inl refl)) q (λ z here. from z (inr here)) rising.0, distinct q (λ z here. from z (inr here)) rising.1)

  below : (q : List Scored) (from : (y : Scored) → IsIn y q → Reached y) (c : ℕ) → list_any (λ d. c == d) (codes q from) ≡ true → c < 288230376151711744
  below [] from c here = absurd (cc)
  below (y ∷ q) from c here = elim (or_cases (c == code (from y (inl refl)).0) (list_any (λ d. c == d) (codes q (λ z there. from z (inr there)))) here) [
    | inl first ↦
        let is = eqb-true _ _ first in
        let its = inside (from y (inl refl)).0 (from y (inl refl)).1.here in
        let heap = its.0 in
        let site = its.1 in
        let n = its.2 in
        omega (arith, is, heap, site, n)
    | inr later ↦ below q (λ z there. from z (inr there)) c later
  ]

  -- so there are at most as many as dots
  pub few_members : (rule : Rule) (q : List Scored) → IsWholeQueue rule S key q → length q ≤ 288230376151711744
  few_members rule q whole =
      let from : (y : Scored) → IsIn y q → Reached y = λ y here. ((whole.members y.0 y.1).0 here).reached in
      let most = length-le_from_distinct_below (codes q from) 288230376151711744 (distinct q from whole.rising) (below q from) in
      let long = codes_long q from in
      omega (arith, most, long)
