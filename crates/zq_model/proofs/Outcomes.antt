-- What a join makes of the additions that its two sides have of a site.

use Rattle.std.proofs.Common.{ℕ, ◌≤◌, ◌≡◌, Bool, true, false, eqb, List, Option, Some, None, refl, sym, ap, ◌∙◌, subst, inl, inr, arith}
use Rattle.std.specs.Prelude.{pos, slice_index, ◌⊎◌}
use Rattle.std.proofs.lemmas.Bool.{cond-false, cond-true, eq-eqb, false_from_ne_true, lt-ltb, le-ltb, ne_eqb, cases_Bool, cases_lt, eqb-true}
use Rattle.std.proofs.lemmas.Option.{same_Some}
use Rattle.zq_model.specs.Entry.{Addition, join_site, joined, or_else, unless_known}
use Rattle.zq_model.specs.Joining.{IsJoined, IsKnown}
use Rattle.zq_model.specs.Operation.{has}
use Rattle.zq_model.proofs.Dots.{has_from, has_parts}
use Rattle.zq_model.proofs.Sites.{by_site-at, length-by_site}

not_has : (v : List ℕ) (s n : ℕ) → (IsKnown v s n → ⊥) → has v s n ≡ false
not_has v s n h = false_from_ne_true _ (λ t. h (has_parts v s n t))

not_known : (v : List ℕ) (s n : ℕ) → has v s n ≡ false → IsKnown v s n → ⊥
not_known v s n h k = cc (has_from v s n k.0 k.1)

-- the option has an addition with this counter
abbrev pub HasCounter : Option Addition → ℕ → Type 0
HasCounter o n = (x : Addition) × (o ≡ Some x) × (x.n ≡ n)

-- each addition of the option is known
abbrev pub AreKnown : List ℕ → ℕ → Option Addition → Type 0
AreKnown v s o = (x : Addition) → o ≡ Some x → IsKnown v s x.n

-- an addition of one side alone stands where the other does not know it
unless_known-alone : (v : List ℕ) (s : ℕ) (x : Addition) → (IsKnown v s x.n → ⊥) → unless_known v s x ≡ Some x
unless_known-alone v s x h = cond-false _ _ _ (not_has v s x.n h)

unless_known-known : (v : List ℕ) (s : ℕ) (x : Addition) → IsKnown v s x.n → unless_known v s x ≡ None
unless_known-known v s x h = cond-true _ _ _ (has_from v s x.n h.0 h.1)

unless_known-some : (v : List ℕ) (s : ℕ) (x z : Addition) (b : Bool) → has v s x.n ≡ b → unless_known v s x ≡ Some z → (x ≡ z) × (IsKnown v s x.n → ⊥)
unless_known-some v s x z true h e = cc (cond-true _ None (Some x) h)
unless_known-some v s x z false h e = (same_Some x z (sym (cond-false _ None (Some x) h) ∙ e), not_known v s x.n h)

or_else-some : (x y : Option Addition) (z : Addition) → or_else x y ≡ Some z → (x ≡ Some z) ⊎ (y ≡ Some z)
or_else-some None y z e = inr e
or_else-some (Some x) y z e = inl e

joined-both : (u v : List ℕ) (s : ℕ) (x y : Addition) → x.n ≡ y.n → join_site u v s (Some x) (Some y) ≡ Some (joined u v x y)
joined-both u v s x y e = cond-true _ _ _ (eq-eqb x.n y.n e)

-- what the addition of both sides is
joined-IsJoined : (u v : List ℕ) (x y : Addition) → IsJoined u v x y (joined u v x y)
joined-IsJoined u v x y = record {
  n = refl;
  score = refl;
  wide = length-by_site _;
  theirs = λ t h l. by_site-at _ t (pos 0) h ∙ cond-true _ _ _ (lt-ltb _ _ l);
  mine = λ t h l. by_site-at _ t (pos 0) h ∙ cond-false _ _ _ (le-ltb _ _ l);
}

pub site-both : (u v : List ℕ) (s : ℕ) (x y z : Addition) → x.n ≡ y.n → join_site u v s (Some x) (Some y) ≡ Some z → IsJoined u v x y z
site-both u v s x y z e h = subst (IsJoined u v x y) (same_Some _ z (sym (joined-both u v s x y e) ∙ h)) (joined-IsJoined u v x y)

pub site-first : (u v : List ℕ) (s : ℕ) (x : Addition) (r : Option Addition) → AreKnown v s r → (IsKnown v s x.n → ⊥) → join_site u v s (Some x) r ≡ Some x
site-first u v s x None sound h = unless_known-alone v s x h
site-first u v s x (Some y) sound h =
    cond-false _ _ _ (ne_eqb x.n y.n (λ e. h (subst (IsKnown v s) (sym e) (sound y refl)))) ∙ ap (λ o. or_else o (unless_known u s y)) (unless_known-alone v s x h)

-- what u knows is older than what v knows and u does not
older : (u v : List ℕ) (s m n : ℕ) → IsKnown u s m → IsKnown v s n → (IsKnown u s n → ⊥) → m ≤ slice_index v s
older u v s m n is k h = elim (cases_lt (slice_index u s) n) [ inl l ↦ omega arith | inr l ↦ absurd (h (k.0, l)) ]

pub site-second : (u v : List ℕ) (s : ℕ) (y : Addition) (p : Option Addition) → AreKnown u s p → IsKnown v s y.n → (IsKnown u s y.n → ⊥) → join_site u v s p (Some y) ≡ Some y
site-second u v s y None sound k h = unless_known-alone u s y h
site-second u v s y (Some x) sound k h =
    let is : IsKnown u s x.n = sound x refl in
    cond-false _ _ _ (ne_eqb x.n y.n (λ e. h (subst (IsKnown u s) e is)))
    ∙ ap (λ o. or_else o (unless_known u s y)) (unless_known-known v s x (is.0, older u v s x.n y.n is k h))
    ∙ unless_known-alone u s y h

-- what stands after a join
abbrev pub Outcome : List ℕ → List ℕ → ℕ → ℕ → Option Addition → Option Addition → Type 0
Outcome u v s n p r = (HasCounter p n × HasCounter r n) ⊎ ((HasCounter p n × (IsKnown v s n → ⊥)) ⊎ (HasCounter r n × (IsKnown u s n → ⊥)))

moved : (u : List ℕ) (s m n : ℕ) → m ≡ n → (IsKnown u s m → ⊥) → IsKnown u s n → ⊥
moved u s m n e h k = h (subst (IsKnown u s) (sym e) k)

pub site-outcome : (u v : List ℕ) (s : ℕ) (z : Addition) (p r : Option Addition) → join_site u v s p r ≡ Some z → Outcome u v s z.n p r
site-outcome u v s z None None e = cc
site-outcome u v s z (Some x) None e =
    let h = unless_known-some v s x z _ refl e in
    let m : x.n ≡ z.n = ap (λ a. a.n) h.0 in
    inr (inl ((x, refl, m), moved v s x.n z.n m h.1))
site-outcome u v s z None (Some y) e =
    let h = unless_known-some u s y z _ refl e in
    let m : y.n ≡ z.n = ap (λ a. a.n) h.0 in
    inr (inr ((y, refl, m), moved u s y.n z.n m h.1))
site-outcome u v s z (Some x) (Some y) e = elim (cases_Bool (eqb x.n y.n)) [
  | inl t ↦
      let m : x.n ≡ y.n = eqb-true x.n y.n t in
      let j : x.n ≡ z.n = ap (λ a. a.n) (same_Some _ z (sym (joined-both u v s x y m) ∙ e)) in
      inl ((x, refl, j), (y, refl, sym m ∙ j))
  | inr t ↦ elim (or_else-some (unless_known v s x) (unless_known u s y) z (sym (cond-false _ _ _ t) ∙ e)) [
    | inl f ↦
        let h = unless_known-some v s x z _ refl f in
        let m : x.n ≡ z.n = ap (λ a. a.n) h.0 in
        inr (inl ((x, refl, m), moved v s x.n z.n m h.1))
    | inr f ↦
        let h = unless_known-some u s y z _ refl f in
        let m : y.n ≡ z.n = ap (λ a. a.n) h.0 in
        inr (inr ((y, refl, m), moved u s y.n z.n m h.1))
  ]
]

stands_both : (u v : List ℕ) (s n : ℕ) (p r : Option Addition) → HasCounter p n → HasCounter r n → HasCounter (join_site u v s p r) n
stands_both u v s n p r x y =
    (joined u v x.0 y.0, (λ i. join_site u v s (x.1 i) (y.1 i)) ∙ joined-both u v s x.0 y.0 (x.2 ∙ sym y.2), x.2)

stands_first : (u v : List ℕ) (s n : ℕ) (p r : Option Addition) → AreKnown v s r → HasCounter p n → (IsKnown v s n → ⊥) → HasCounter (join_site u v s p r) n
stands_first u v s n p r sound x h =
    (x.0, ap (λ o. join_site u v s o r) x.1 ∙ site-first u v s x.0 r sound (moved v s n x.0.n (sym x.2) h), x.2)

stands_second : (u v : List ℕ) (s n : ℕ) (p r : Option Addition) → AreKnown u s p → AreKnown v s r → HasCounter r n → (IsKnown u s n → ⊥) → HasCounter (join_site u v s p r) n
stands_second u v s n p r sound known y h =
    (y.0, ap (join_site u v s p) y.1 ∙ site-second u v s y.0 p sound (known y.0 y.1) (moved u s n y.0.n (sym y.2) h), y.2)

pub site-stands : (u v : List ℕ) (s n : ℕ) (p r : Option Addition) → AreKnown u s p → AreKnown v s r → Outcome u v s n p r → HasCounter (join_site u v s p r) n
site-stands u v s n p r sound known (inl h) = stands_both u v s n p r h.0 h.1
site-stands u v s n p r sound known (inr (inl h)) = stands_first u v s n p r known h.0 h.1
site-stands u v s n p r sound known (inr (inr h)) = stands_second u v s n p r sound known h.0 h.1
