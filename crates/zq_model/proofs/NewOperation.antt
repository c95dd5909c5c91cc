-- A new operation over a closed set of a world: its counter, the vector and the sums after it.

use Rattle.std.proofs.Common.{List, Some, ap, ap₂, arith, false, get_or, inl, inr, max, ne_eqb, pos, refl, subst, suc, sym, true, ℕ, ◌+ℤ◌, ◌+◌, ◌<◌, ◌∙◌, ◌∷◌, ◌≡◌, ◌≤◌}
use Rattle.std.proofs.lemmas.Bool.{and_right, cases_eq}
use Rattle.zq_model.proofs.Dots.{dots_below, has_not_from, has_parts, last_above, last_head, last_other}
use Rattle.zq_model.proofs.Sums.{plus_nothing, site_sum_within, sum_upto-same}
use Rattle.zq_model.proofs.Worlds.{at_dot, at_within, world_part}
use Rattle.zq_model.specs.Entry.{amount, site_sum, sum_upto}
use Rattle.zq_model.specs.Operation.{Operation, has}
use Rattle.zq_model.specs.Sets.{HasAllSeen, HasDot, IsClosed, IsIn, IsNew, IsOperation, IsWorld, at, last}

-- its counter is the next of its site
pub new_next : (K : ℕ) (S : List Operation) (o : Operation) → IsWorld K (o ∷ S) → IsNew S o → o.n ≡ last S o.heap o.site + 1
new_next K S o world new =
    let next : o.n ≡ get_or o.seen o.site 0 + 1 = (world.each o (inl refl)).next in
    let covered : get_or o.seen o.site 0 ≤ last S o.heap o.site = new.covered o.site in
    let fresh : last S o.heap o.site < o.n = new.fresh in omega arith

pub world_rest : (K : ℕ) (S : List Operation) (o : Operation) → IsWorld K (o ∷ S) → IsWorld K S
world_rest K S o = world_part K S (o ∷ S) (λ p i. inr i)

dot_more : (S : List Operation) (o : Operation) (h s n : ℕ) → HasDot S h s n → HasDot (o ∷ S) h s n
dot_more S o h s n a = (a.0, inr a.1, a.2, a.3, a.4)

-- the set has what the operation has seen
pub new_has_seen : (K : ℕ) (S : List Operation) (o : Operation) → IsWorld K S → IsClosed S → IsNew S o → HasAllSeen S o
new_has_seen K S o world closed new s n known =
    let parts : (0 < n) × (n ≤ get_or o.seen s 0) = has_parts o.seen s n known in
    let covered : get_or o.seen s 0 ≤ last S o.heap s = new.covered s in
    dots_below K S o.heap s n world closed parts.0 (omega arith)

pub closed_after : (S : List Operation) (o : Operation) → IsClosed S → HasAllSeen S o → IsClosed (o ∷ S)
closed_after S o closed seen = record {
  before = λ p i s n known. elim i [
    | inl same ↦
        let known_o : has o.seen s n ≡ true = subst (λ x. has x.seen s n ≡ true) (sym same) known in
        subst (λ x. HasDot (o ∷ S) x.heap s n) same (dot_more S o o.heap s n (seen s n known_o))
    | inr there ↦ dot_more S o p.heap s n (closed.before p there s n known)
  ];
}

pub last_here : (S : List Operation) (o : Operation) → IsNew S o → last (o ∷ S) o.heap o.site ≡ o.n
last_here S o new =
    let head : last (o ∷ S) o.heap o.site ≡ max o.n (last S o.heap o.site) = last_head o S o.heap o.site refl refl in
    let fresh : last S o.heap o.site < o.n = new.fresh in omega arith

pub last_elsewhere : (S : List Operation) (o : Operation) (t : ℕ) → (t ≡ o.site → ⊥) → last (o ∷ S) o.heap t ≡ last S o.heap t
last_elsewhere S o t apart = last_other o S o.heap t (and_right _ _ (ne_eqb o.site t (λ e. apart (sym e))))

-- the new operation has not seen its own dot
pub own_dot_unseen : (K : ℕ) (S : List Operation) (o : Operation) → IsWorld K S → IsIn o S → has o.seen o.site o.n ≡ false
own_dot_unseen K S o world i =
    let next : o.n ≡ get_or o.seen o.site 0 + 1 = (world.each o i).next in has_not_from o.seen o.site o.n (omega arith)

-- a new operation is not in the set
pub new_outside : (S : List Operation) (o : Operation) → IsNew S o → IsIn o S → ⊥
new_outside S o new i =
    let inside : o.n ≤ last S o.heap o.site = last_above S o.heap o.site o i refl refl in
    let fresh : last S o.heap o.site < o.n = new.fresh in omega arith

-- and shares its dot with none of it
new_dot : (S : List Operation) (o p : Operation) → IsNew S o → IsIn p S → o.heap ≡ p.heap → o.site ≡ p.site → o.n ≡ p.n → ⊥
new_dot S o p new i a b c =
    let inside : p.n ≤ last S o.heap o.site = last_above S o.heap o.site p i (sym a) (sym b) in
    let fresh : last S o.heap o.site < o.n = new.fresh in omega arith

-- with it the set is a world
pub world_after : (K : ℕ) (S : List Operation) (o : Operation) → IsWorld K S → IsOperation K o → IsNew S o → IsWorld K (o ∷ S)
world_after K S o world operation new = record { each = each; one = one }
  where
    each : (p : Operation) → IsIn p (o ∷ S) → IsOperation K p
    each p (inl same) = subst (IsOperation K) same operation
    each p (inr there) = world.each p there

    one : (p r : Operation) → IsIn p (o ∷ S) → IsIn r (o ∷ S) → p.heap ≡ r.heap → p.site ≡ r.site → p.n ≡ r.n → p ≡ r
    one p r (inl same) (inl same_r) a b c = sym same ∙ same_r
    one p r (inl same) (inr there) a b c = absurd (new_dot S o r new there (ap (λ x. x.heap) same ∙ a) (ap (λ x. x.site) same ∙ b) (ap (λ x. x.n) same ∙ c))
    one p r (inr there) (inl same) a b c = absurd (new_dot S o p new there (ap (λ x. x.heap) same ∙ sym a) (ap (λ x. x.site) same ∙ sym b) (ap (λ x. x.n) same ∙ sym c))
    one p r (inr there) (inr there_r) a b c = world.one p r there there_r a b c

-- ---- sums

module _ (K : ℕ) (S : List Operation) (o : Operation) (world : IsWorld K (o ∷ S)) (closed : IsClosed S) (new : IsNew S o) where
  -- a site's sum after a Bump of another site
  pub sum_elsewhere : (k m : List ℕ) (s n t : ℕ) → (t ≡ o.site → ⊥) → site_sum (o ∷ S) o.heap k m s n t ≡ site_sum S o.heap k m s n t
  sum_elsewhere k m s n t apart =
      site_sum_within K S (o ∷ S) o.heap k m s n t (world_rest K S o world) world closed (λ p i _. inr i) (last_elsewhere S o t apart)

  -- and of the operation's own
  pub sum_here : (k m : List ℕ) (s n : ℕ) →
      site_sum (o ∷ S) o.heap k m s n o.site ≡ site_sum S o.heap k m s n o.site +ℤ amount o.heap k m s n (Some o)
  sum_here k m s n =
      let rest : IsWorld K S = world_rest K S o world in
      let next : o.n ≡ last S o.heap o.site + 1 = new_next K S o world new in
      let here : last (o ∷ S) o.heap o.site ≡ o.n = last_here S o new in
      let top : last (o ∷ S) o.heap o.site ≡ suc (last S o.heap o.site) = omega arith in
      let mine : HasDot (o ∷ S) o.heap o.site (suc (last S o.heap o.site)) = (o, inl refl, refl, refl, omega arith) in
      let same : (i : ℕ) → 0 < i → i ≤ last S o.heap o.site → at (o ∷ S) o.heap o.site i ≡ at S o.heap o.site i =
      λ i low high. at_within K S (o ∷ S) o.heap o.site i rest world (λ p j _. inr j) (dots_below K S o.heap o.site i rest closed low high) in
      ap (sum_upto (λ i. amount o.heap k m s n (at (o ∷ S) o.heap o.site i))) top
      ∙ ap₂ (λ x y. x +ℤ y)
      (sum_upto-same _ _ (last S o.heap o.site) (λ i low high. ap (amount o.heap k m s n) (same i low high)))
      (ap (amount o.heap k m s n) (at_dot K (o ∷ S) o.heap o.site (suc (last S o.heap o.site)) world mine))

  -- an operation that adds nothing to the Put leaves its sums
  pub sum_stays : (k m : List ℕ) (s n t : ℕ) → amount o.heap k m s n (Some o) ≡ pos 0 → site_sum (o ∷ S) o.heap k m s n t ≡ site_sum S o.heap k m s n t
  sum_stays k m s n t nothing =
      elim (cases_eq t o.site) [
        | inl same ↦ subst (λ r. site_sum (o ∷ S) o.heap k m s n r ≡ site_sum S o.heap k m s n r) (sym same)
            (sum_here k m s n ∙ ap (λ x. site_sum S o.heap k m s n o.site +ℤ x) nothing ∙ plus_nothing _)
        | inr apart ↦ sum_elsewhere k m s n t apart
      ]
