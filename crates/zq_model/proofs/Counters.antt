-- A sum over a set without repeats is the sum over the counters of each site.
use Rattle.std.proofs.Common.{◌≡◌, ℕ, zero, suc, ◌<◌, ◌≤◌, ℤ, pos, ◌+ℤ◌, Bool, true, false, cond, if◌then◌else◌, List, [], ◌∷◌, Option, None, Some, refl, sym, ap, ◌∙◌, subst, inl, inr, ◌&&◌, arith, ◌==◌}
use Rattle.std.specs.List.{list_any}
use Rattle.std.proofs.lemmas.Bool.{and_from, and_parts, cases_Bool, cases_eq, cond-true, cond-false, eqb-true, eq-eqb, both_ways, false_from_ne_true}
use Rattle.std.proofs.lemmas.Int.{ints}
use Rattle.zq_model.proofs.EachOnce.{is_same_equal, is_same_itself}
use Rattle.zq_model.proofs.Dots.{counter_positive, last_above}
use Rattle.zq_model.proofs.Sums.{sum_upto-nothing, sum_upto-same}
use Rattle.zq_model.proofs.Worlds.{at_dot, is_dot_from, is_dot_parts, world_part}
use Rattle.zq_model.proofs.Membership.{any_none, any_some, find_nothing}
use Rattle.zq_model.specs.Entry.{sum_upto}
use Rattle.zq_model.specs.Meaning.{each_once, is_same, sum_over}
use Rattle.zq_model.specs.Operation.{Operation}
use Rattle.zq_model.specs.Sets.{IsIn, IsWorld, at, is_dot, last}

-- f of what is found, and nothing where nothing is found
abbrev pub if_found : (Operation → ℤ) → Option Operation → ℤ
if_found f None = pos 0
if_found f (Some o) = f o

-- the operation is the site's, in the heap
abbrev pub is_from : ℕ → ℕ → Operation → Bool
is_from h t o = (o.heap == h) && (o.site == t)

abbrev pub if_from : ℕ → ℕ → (Operation → ℤ) → Operation → ℤ
if_from h t f o = if is_from h t o then f o else pos 0

-- sums of numbers that differ at one place alone: below it, and from it on
sum_upto_same_below : (u v : ℕ → ℤ) (n : ℕ) → ((i : ℕ) → (i ≡ n → ⊥) → u i ≡ v i) → (N : ℕ) → N < n → sum_upto u N ≡ sum_upto v N
sum_upto_same_below u v n same zero less = refl
sum_upto_same_below u v n same (suc N) less = λ i. sum_upto_same_below u v n same N (omega arith) i +ℤ same (suc N) (λ e. omega arith) i

sum_upto_one : (u v : ℕ → ℤ) (n : ℕ) → 1 ≤ n → v n ≡ pos 0 → ((i : ℕ) → (i ≡ n → ⊥) → u i ≡ v i) → (N : ℕ) → n ≤ N → sum_upto u N ≡ u n +ℤ sum_upto v N
sum_upto_one u v n some none same zero most = absurd (omega arith)
sum_upto_one u v n some none same (suc N) most = elim (cases_eq (suc N) n) [
  | inl here ↦
      let below = sum_upto_same_below u v n same N (omega arith) in
      subst (λ k. sum_upto u N +ℤ u k ≡ u n +ℤ (sum_upto v N +ℤ v k)) (sym here) (omega (arith, ints))
  | inr there ↦
      let rest = sum_upto_one u v n some none same N (omega arith) in
      let e = same (suc N) there in
      omega (arith, ints)
]

-- an operation that the set already has changes no look-up by dot
at_repeat : (K : ℕ) (o : Operation) (S : List Operation) (h s n : ℕ) → IsWorld K S → IsIn o S → at (o ∷ S) h s n ≡ at S h s n
at_repeat K o S h s n world here =
    elim (is_dot h s n o) as (λ b. is_dot h s n o ≡ b → cond b (Some o) (at S h s n) ≡ at S h s n) [
      | true ↦ λ same. let parts = is_dot_parts h s n o same in sym (at_dot K S h s n world (o, here, parts.0, parts.1, parts.2))
      | false ↦ λ other. refl
    ] refl

at_other : (o : Operation) (S : List Operation) (h s n : ℕ) → is_dot h s n o ≡ false → at (o ∷ S) h s n ≡ at S h s n
at_other o S h s n other = cond-false _ (Some o) (at S h s n) other

at_first : (o : Operation) (S : List Operation) (h s n : ℕ) → is_dot h s n o ≡ true → at (o ∷ S) h s n ≡ Some o
at_first o S h s n here = cond-true _ (Some o) (at S h s n) here

-- the set has no other operation with the dot of one that it has not
at_fresh : (K : ℕ) (o : Operation) (S : List Operation) (h t : ℕ) → IsWorld K (o ∷ S) → list_any (is_same o) S ≡ false → o.heap ≡ h → o.site ≡ t → at S h t o.n ≡ None
at_fresh K o S h t world fresh a b =
    find_nothing (is_dot h t o.n) S (λ p there is.
    let parts = is_dot_parts h t o.n p is in
    let same = world.one o p (inl refl) (inr there) (a ∙ sym parts.0) (b ∙ sym parts.1) (sym parts.2) in
    both_ways _ (any_none (is_same o) S p fresh there) (subst (λ q. is_same o q ≡ true) same (is_same_itself o)))

sum_again : (K : ℕ) (o : Operation) (S : List Operation) (h t : ℕ) (f : Operation → ℤ) → IsWorld K S → list_any (is_same o) S ≡ true → (N : ℕ) →
    sum_upto (λ i. if_found f (at S h t i)) N ≡ sum_upto (λ i. if_found f (at (o ∷ S) h t i)) N
sum_again K o S h t f world again N =
    let found = any_some (is_same o) S again in
    let here = subst (λ p. IsIn p S) (sym (is_same_equal o found.0 found.2)) found.1 in
    sum_upto-same _ _ N (λ i low high. ap (if_found f) (sym (at_repeat K o S h t i world here)))

sum_first : (K : ℕ) (o : Operation) (S : List Operation) (h t : ℕ) (f : Operation → ℤ) → IsWorld K (o ∷ S) → list_any (is_same o) S ≡ false → (N : ℕ) → last (o ∷ S) h t ≤ N →
    o.heap ≡ h → o.site ≡ t → sum_upto (λ i. if_found f (at (o ∷ S) h t i)) N ≡ f o +ℤ sum_upto (λ i. if_found f (at S h t i)) N
sum_first K o S h t f world fresh N most a b =
    let positive = counter_positive K (o ∷ S) o world (inl refl) in
    let above = last_above (o ∷ S) h t o (inl refl) a b in
    let is = ap (if_found f) (at_first o S h t o.n (is_dot_from h t o.n o a b refl)) in
    let sums = sum_upto_one (λ i. if_found f (at (o ∷ S) h t i)) (λ i. if_found f (at S h t i)) o.n positive
    (ap (if_found f) (at_fresh K o S h t world fresh a b))
    (λ i other. ap (if_found f) (at_other o S h t i (false_from_ne_true _ (λ is. other (sym (is_dot_parts h t i o is).2))))) N (omega arith) in
    sums ∙ ap (λ x. x +ℤ sum_upto (λ i. if_found f (at S h t i)) N) is

sum_other : (o : Operation) (S : List Operation) (h t : ℕ) (f : Operation → ℤ) → is_from h t o ≡ false → (N : ℕ) →
    sum_upto (λ i. if_found f (at S h t i)) N ≡ sum_upto (λ i. if_found f (at (o ∷ S) h t i)) N
sum_other o S h t f other N =
    sum_upto-same _ _ N (λ i low high. ap (if_found f) (sym (at_other o S h t i (false_from_ne_true _ (λ is.
    let parts = is_dot_parts h t i o is in
    both_ways _ other (and_from _ _ (eq-eqb o.heap h parts.0) (eq-eqb o.site t parts.1)))))))

-- the sum over a world's operations of a site is the sum over its counters
pub sum_by_counters : (K : ℕ) (S : List Operation) (h t : ℕ) (f : Operation → ℤ) → IsWorld K S → (N : ℕ) → last S h t ≤ N →
    sum_over (if_from h t f) (each_once S) ≡ sum_upto (λ i. if_found f (at S h t i)) N
sum_by_counters K [] h t f world N most = sym (sum_upto-nothing _ N (λ i low high. refl))
sum_by_counters K (o ∷ S) h t f world N most =
    let rest = sum_by_counters K S h t f (world_part K S (o ∷ S) (λ p. inr) world) N (omega arith) in
    elim (list_any (is_same o) S) as (λ b. list_any (is_same o) S ≡ b → sum_over (if_from h t f) (if b then each_once S else o ∷ each_once S) ≡ sum_upto (λ i. if_found f (at (o ∷ S) h t i)) N) [
      | true ↦ λ again. rest ∙ sum_again K o S h t f (world_part K S (o ∷ S) (λ p. inr) world) again N
      | false ↦ λ fresh. elim (cases_Bool (is_from h t o)) [
        | inl mine ↦
            let parts = and_parts (o.heap == h) _ mine in
            (λ i. cond-true _ (f o) (pos 0) mine i +ℤ rest i) ∙ sym (sum_first K o S h t f world fresh N most (eqb-true o.heap h parts.0) (eqb-true o.site t parts.1))
        | inr other ↦
            let none : if_from h t f o ≡ pos 0 = cond-false _ (f o) (pos 0) other in
            let same = rest ∙ sum_other o S h t f other N in
            let e : if_from h t f o +ℤ sum_over (if_from h t f) (each_once S) ≡ sum_over (if_from h t f) (each_once S) = omega (arith, ints) in
            e ∙ same
      ]
    ] refl
