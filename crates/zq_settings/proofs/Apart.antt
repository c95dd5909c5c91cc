-- A list in which no port stands twice has no two equal ports, and the other way round.
use Rattle.std.proofs.Common.{◌≡◌, ℕ, false, eqb, List, [], ◌∷◌, Some, None, refl, sym, inl, inr}
use Rattle.std.proofs.lemmas.Bool.{cases_Bool, or_parts, or_from, eqb-false, ne_eqb}
use Rattle.std.specs.List.{AllByRecursion, IsDistinct, list_any}
use Rattle.zq_settings.specs.Ports.{first_twice}

eqb_turned : (a b : ℕ) → eqb a b ≡ false → eqb b a ≡ false
eqb_turned a b h = ne_eqb b a (λ same. eqb-false a b h (sym same))

-- a port that is not among the others is unequal to each
apart_from_all : (port : ℕ) (ports : List ℕ) → list_any (λ other. eqb other port) ports ≡ false → AllByRecursion (λ other. eqb port other ≡ false) ports
apart_from_all port [] h = tt
apart_from_all port (other ∷ ports) h =
    let parts = or_parts (eqb other port) (list_any (λ o. eqb o port) ports) h in
    (eqb_turned other port parts.0, apart_from_all port ports parts.1)

not_among : (port : ℕ) (ports : List ℕ) → AllByRecursion (λ other. eqb port other ≡ false) ports → list_any (λ other. eqb other port) ports ≡ false
not_among port [] h = refl
not_among port (other ∷ ports) h = or_from _ _ (eqb_turned port other h.0) (not_among port ports h.1)

pub distinct_since : (ports : List ℕ) → first_twice ports ≡ None → IsDistinct eqb ports
unfolding IsDistinct
distinct_since [] h = tt
distinct_since (port ∷ ports) h =
    elim (cases_Bool (list_any (λ other. eqb other port) ports)) [
      | inl again ↦ let none : Some port ≡ None = rw again at h in cc
      | inr apart ↦ (apart_from_all port ports apart, distinct_since ports (rw apart at h))
    ]

pub none_twice : (ports : List ℕ) → IsDistinct eqb ports → first_twice ports ≡ None
unfolding IsDistinct
none_twice [] h = refl
none_twice (port ∷ ports) h = rw (not_among port ports h.0) (none_twice ports h.1)
