-- Dots: what a vector says of one, and which of them a closed set of a world has.

use Rattle.std.proofs.Common.{List, T, [], ap, arith, eq-eqb, eqb-true, false, get_or, inl, inr, le-leb, leb, leb-true, lt-ltb, ltb, ltb-true, max, refl, subst, sym, true, true≢false, ℕ, ⊎_elim, ◌&&◌, ◌++◌, ◌+◌, ◌<◌, ◌==◌, ◌∙◌, ◌∷◌, ◌≡◌, ◌≤◌}
use Rattle.std.proofs.lemmas.Bool.{and_from, and_parts, cases_Bool, cases_lt, cond-false, cond-true, false_from_ne_true}
use Rattle.zq_model.proofs.Membership.{in_left, in_right}
use Rattle.zq_model.specs.Operation.{Operation, has}
use Rattle.zq_model.specs.Sets.{HasDot, IsClosed, IsIn, IsWorld, last}

pub has_parts : (v : List ℕ) (s n : ℕ) → has v s n ≡ true → (0 < n) × (n ≤ get_or v s 0)
has_parts v s n e =
    let parts : (ltb 0 n ≡ true) × (leb n (get_or v s 0) ≡ true) = and_parts _ _ e in (ltb-true 0 n parts.0, leb-true n _ parts.1)

pub has_from : (v : List ℕ) (s n : ℕ) → 0 < n → n ≤ get_or v s 0 → has v s n ≡ true
has_from v s n a b = and_from _ _ (lt-ltb 0 n a) (le-leb n _ b)

-- a dot that is not in the vector is above its counter
pub has_not : (v : List ℕ) (s n : ℕ) → has v s n ≡ false → 0 < n → get_or v s 0 < n
has_not v s n e a =
    ⊎_elim (λ h. h) (λ h. absurd (true≢false (sym (has_from v s n a h) ∙ e))) (cases_lt (get_or v s 0) n)

pub has_not_from : (v : List ℕ) (s n : ℕ) → get_or v s 0 < n → has v s n ≡ false
has_not_from v s n h = false_from_ne_true (has v s n) (λ e. let parts : (0 < n) × (n ≤ get_or v s 0) = has_parts v s n e in omega arith)

pub last_head : (p : Operation) (S : List Operation) (h s : ℕ) → p.heap ≡ h → p.site ≡ s → last (p ∷ S) h s ≡ max p.n (last S h s)
last_head p S h s a b = ap (λ x. max x (last S h s)) (cond-true _ p.n 0 (and_from _ _ (eq-eqb p.heap h a) (eq-eqb p.site s b)))

pub last_above : (S : List Operation) (h s : ℕ) (o : Operation) → IsIn o S → o.heap ≡ h → o.site ≡ s → o.n ≤ last S h s
last_above [] h s o i a b = absurd i
last_above (p ∷ S) h s o (inl e) a b =
    let head : last (p ∷ S) h s ≡ max p.n (last S h s) = last_head p S h s (ap (λ x. x.heap) e ∙ a) (ap (λ x. x.site) e ∙ b) in
    subst (λ x. x.n ≤ last (p ∷ S) h s) e (rw head (omega arith))
last_above (p ∷ S) h s o (inr i) a b = let rest : o.n ≤ last S h s = last_above S h s o i a b in omega arith

pub last_other : (p : Operation) (S : List Operation) (h s : ℕ) → ((p.heap == h) && (p.site == s)) ≡ false → last (p ∷ S) h s ≡ last S h s
last_other p S h s e =
    let zero : last (p ∷ S) h s ≡ max 0 (last S h s) = ap (λ x. max x (last S h s)) (cond-false _ p.n 0 e) in omega arith

pub last_reached : (S : List Operation) (h s : ℕ) → 0 < last S h s → HasDot S h s (last S h s)
last_reached [] h s e = absurd (omega arith)
last_reached (p ∷ S) h s e =
    elim (cases_Bool ((p.heap == h) && (p.site == s))) [
      | inl t ↦
          let parts : ((p.heap == h) ≡ true) × ((p.site == s) ≡ true) = and_parts _ _ t in
          let a : p.heap ≡ h = eqb-true _ _ parts.0 in
          let b : p.site ≡ s = eqb-true _ _ parts.1 in
          let head : last (p ∷ S) h s ≡ max p.n (last S h s) = last_head p S h s a b in
          elim (cases_lt p.n (last S h s)) [
            | inl less ↦
                let more : last S h s ≡ last (p ∷ S) h s = omega arith in
                let rest : HasDot S h s (last S h s) = last_reached S h s (omega arith) in
                (rest.0, inr rest.1, rest.2, rest.3, rest.4 ∙ more)
            | inr most ↦ (p, inl refl, a, b, omega arith)
          ]
      | inr f ↦
          let same : last (p ∷ S) h s ≡ last S h s = last_other p S h s f in
          let rest : HasDot S h s (last S h s) = last_reached S h s (omega arith) in
          (rest.0, inr rest.1, rest.2, rest.3, rest.4 ∙ sym same)
    ]

-- what bounds each counter bounds the last
pub last_below : (S : List Operation) (h s b : ℕ) → ((o : Operation) → IsIn o S → o.heap ≡ h → o.site ≡ s → o.n ≤ b) → last S h s ≤ b
last_below S h s b each =
    elim (cases_lt b (last S h s)) [
      | inl less ↦
          let top : HasDot S h s (last S h s) = last_reached S h s (omega arith) in
          let bound : top.0.n ≤ b = each top.0 top.1 top.2 top.3 in
          let is : top.0.n ≡ last S h s = top.4 in omega arith
      | inr most ↦ most
    ]

pub last-union : (S T : List Operation) (h s : ℕ) → last (S ++ T) h s ≡ max (last S h s) (last T h s)
last-union [] T h s = omega arith
last-union (p ∷ S) T h s = let rest : last (S ++ T) h s ≡ max (last S h s) (last T h s) = last-union S T h s in omega arith

-- ---- in a world

pub counter_positive : (K : ℕ) (S : List Operation) (o : Operation) → IsWorld K S → IsIn o S → 0 < o.n
counter_positive K S o world i = let next : o.n ≡ get_or o.seen o.site 0 + 1 = (world.each o i).next in omega arith

-- a world has no more than one operation for a dot
pub same_dot : (K : ℕ) (S : List Operation) (h s n : ℕ) → IsWorld K S → (a b : HasDot S h s n) → a.0 ≡ b.0
same_dot K S h s n world a b = world.one a.0 b.0 a.1 b.1 (a.2 ∙ sym b.2) (a.3 ∙ sym b.3) (a.4 ∙ sym b.4)

-- a closed set of a world has an operation for each counter up to the last
pub dots_below : (K : ℕ) (S : List Operation) (h s n : ℕ) → IsWorld K S → IsClosed S → 0 < n → n ≤ last S h s → HasDot S h s n
dots_below K S h s n world closed low high =
    let top : HasDot S h s (last S h s) = last_reached S h s (omega arith) in
    let o = top.0 in
    let next : o.n ≡ get_or o.seen o.site 0 + 1 = (world.each o top.1).next in
    let is : o.n ≡ last S h s = top.4 in
    elim (cases_lt n (last S h s)) [
      | inl less ↦
          let seen : n ≤ get_or o.seen s 0 = subst (λ t. n ≤ get_or o.seen t 0) top.3 (omega arith) in
          subst (λ x. HasDot S x s n) top.2 (closed.before o top.1 s n (has_from o.seen s n low seen))
      | inr most ↦ let same : last S h s ≡ n = omega arith in subst (λ x. HasDot S h s x) same top
    ]

pub dot_last : (S : List Operation) (h s n : ℕ) → HasDot S h s n → n ≤ last S h s
dot_last S h s n a = subst (λ x. x ≤ last S h s) a.4 (last_above S h s a.0 a.1 a.2 a.3)

pub dot_left : (S T : List Operation) (h s n : ℕ) → HasDot S h s n → HasDot (S ++ T) h s n
dot_left S T h s n a = (a.0, in_left a.0 S T a.1, a.2, a.3, a.4)

pub dot_right : (S T : List Operation) (h s n : ℕ) → HasDot T h s n → HasDot (S ++ T) h s n
dot_right S T h s n a = (a.0, in_right a.0 S T a.1, a.2, a.3, a.4)

-- what an operation of a closed set has seen is not above the last
pub seen_last : (S : List Operation) (o : Operation) (h s n : ℕ) → IsClosed S → IsIn o S → o.heap ≡ h → has o.seen s n ≡ true → n ≤ last S h s
seen_last S o h s n closed i e known = dot_last S h s n (subst (λ x. HasDot S x s n) e (closed.before o i s n known))
