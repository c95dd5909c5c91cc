-- The score of an entry: it is the value of an addition, and no addition has a better one.
use Rattle.std.proofs.Common.{◌≡◌, ℕ, ℤ, [], ◌∷◌, Option, None, Some, zero, suc, refl, subst, inl, inr, ◌⊎◌, arith}
use Rattle.std.proofs.lemmas.Option.{same_Some}
use Rattle.std.proofs.lemmas.Int.{ints, clamps}
use Rattle.zq_model.specs.Entry.{Addition}
use Rattle.zq_model.specs.Image.{Entry, addition_at}
use Rattle.zq_model.specs.Rule.{IsNoWorse, Rule, Greatest, Least, preferred}
use Rattle.zq_model.specs.Score.{preferred_if, score_of, value_of}

pub IsNoWorse-itself : (rule : Rule) (x : ℤ) → IsNoWorse rule x x
IsNoWorse-itself Greatest x = omega (arith, ints)
IsNoWorse-itself Least x = omega (arith, ints)

pub IsNoWorse-trans : (rule : Rule) (x y z : ℤ) → IsNoWorse rule x y → IsNoWorse rule y z → IsNoWorse rule x z
IsNoWorse-trans Greatest x y z = λ p q. omega (arith, ints)
IsNoWorse-trans Least x y z = λ p q. omega (arith, ints)

-- two values that are no worse than each other are one
pub IsNoWorse-both : (rule : Rule) (x y : ℤ) → IsNoWorse rule x y → IsNoWorse rule y x → x ≡ y
IsNoWorse-both Greatest x y = λ p q. omega (arith, ints)
IsNoWorse-both Least x y = λ p q. omega (arith, ints)

preferred_first : (rule : Rule) (x y : ℤ) → IsNoWorse rule (preferred rule x y) x
preferred_first Greatest x y = omega (arith, ints, clamps)
preferred_first Least x y = omega (arith, ints, clamps)

preferred_second : (rule : Rule) (x y : ℤ) → IsNoWorse rule (preferred rule x y) y
preferred_second Greatest x y = omega (arith, ints, clamps)
preferred_second Least x y = omega (arith, ints, clamps)

preferred_either : (rule : Rule) (x y : ℤ) → (x ≡ preferred rule x y) ⊎ (y ≡ preferred rule x y)
preferred_either Greatest x y = grind (arith, ints, clamps)
preferred_either Least x y = grind (arith, ints, clamps)

-- the entry has an addition of this value
abbrev pub HasValue : Entry → ℤ → Type 0
HasValue e x = (s : ℕ) × (a : Addition) × (addition_at e s ≡ Some a) × (value_of a ≡ x)

HasValue-later : (b : Option Addition) (e : Entry) (x : ℤ) → HasValue e x → HasValue (b ∷ e) x
HasValue-later b e x h = (suc h.0, h.1, h.2, h.3)

reached_if : (rule : Rule) (a : Addition) (e : Entry) (y : Option ℤ) → score_of rule e ≡ y → ((x : ℤ) → score_of rule e ≡ Some x → HasValue e x) →
    HasValue (Some a ∷ e) (preferred_if rule (value_of a) y)
reached_if rule a e None is rest = (0, a, refl, refl)
reached_if rule a e (Some y) is rest = elim (preferred_either rule (value_of a) y) [
  | inl first ↦ (0, a, refl, first)
  | inr second ↦ HasValue-later (Some a) e _ (subst (HasValue e) second (rest y is))
]

pub score_reached : (rule : Rule) (e : Entry) (x : ℤ) → score_of rule e ≡ Some x → HasValue e x
score_reached rule [] x is = absurd (cc)
score_reached rule (None ∷ e) x is = HasValue-later None e x (score_reached rule e x is)
score_reached rule (Some a ∷ e) x is =
    subst (HasValue (Some a ∷ e)) (same_Some _ _ is) (reached_if rule a e (score_of rule e) refl (score_reached rule e))

-- an entry with an addition has a score
pub score_some : (rule : Rule) (e : Entry) (s : ℕ) (a : Addition) → addition_at e s ≡ Some a → score_of rule e ≡ None → ⊥
score_some rule [] s a is none = cc
score_some rule (None ∷ e) zero a is none = cc
score_some rule (None ∷ e) (suc s) a is none = score_some rule e s a is none
score_some rule (Some b ∷ e) s a is none = cc

best_if : (rule : Rule) (b : Addition) (e : Entry) (y : Option ℤ) → score_of rule e ≡ y →
    ((x : ℤ) (s : ℕ) (a : Addition) → score_of rule e ≡ Some x → addition_at e s ≡ Some a → IsNoWorse rule x (value_of a)) →
    (s : ℕ) (a : Addition) → addition_at (Some b ∷ e) s ≡ Some a → IsNoWorse rule (preferred_if rule (value_of b) y) (value_of a)
best_if rule b e None is rest zero a here = subst (λ c. IsNoWorse rule (value_of b) (value_of c)) (same_Some b a here) (IsNoWorse-itself rule (value_of b))
best_if rule b e (Some y) is rest zero a here = subst (λ c. IsNoWorse rule (preferred rule (value_of b) y) (value_of c)) (same_Some b a here) (preferred_first rule (value_of b) y)
best_if rule b e None is rest (suc s) a here = absurd (score_some rule e s a here is)
best_if rule b e (Some y) is rest (suc s) a here = IsNoWorse-trans rule _ y _ (preferred_second rule (value_of b) y) (rest y s a is here)

pub score_best : (rule : Rule) (e : Entry) (x : ℤ) (s : ℕ) (a : Addition) → score_of rule e ≡ Some x → addition_at e s ≡ Some a → IsNoWorse rule x (value_of a)
score_best rule [] x s a is here = absurd (cc)
score_best rule (None ∷ e) x zero a is here = absurd (cc)
score_best rule (None ∷ e) x (suc s) a is here = score_best rule e x s a is here
score_best rule (Some b ∷ e) x s a is here =
    subst (λ v. IsNoWorse rule v (value_of a)) (same_Some _ _ is) (best_if rule b e (score_of rule e) refl (score_best rule e) s a here)
