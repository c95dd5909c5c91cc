-- What stands in a rising list of pairs after one is put in or some are taken out, and that it rises.
use Rattle.std.proofs.Common.{Bool, Equal, Greater, Less, List, Ordering, [], cond, false, inl, inr, not, refl, subst, sym, ap, true, true≢false, ◌∙◌, ◌∷◌, ◌≡◌, ◌⊎◌}
use Rattle.std.specs.BTreeSet.{insert_key}
use Rattle.std.specs.Ordering.{match_ordering, ordering_reverse}
use Rattle.std.specs.Prelude.{filter}
use Rattle.zq_model.proofs.Rising.{scored_exact, scored_total}
use Rattle.zq_model.specs.Meaning.{IsRising, Scored, scored_cmp}
use Rattle.zq_model.specs.Sets.{IsIn}

-- ---- some taken out

pub in_filter_from : {X : Type 0} (p : X → Bool) (q : List X) (z : X) → IsIn z (filter p q) → IsIn z q × (p z ≡ true)
in_filter_from p [] z here = absurd here
in_filter_from p (x ∷ q) z here =
    elim (p x) as (λ b. p x ≡ b → IsIn z (cond b (x ∷ filter p q) (filter p q)) → IsIn z (x ∷ q) × (p z ≡ true)) [
      | true ↦ λ passes h. elim h [
        | inl same ↦ (inl same, subst (λ y. p y ≡ true) same passes)
        | inr later ↦ let rest = in_filter_from p q z later in (inr rest.0, rest.1)
      ]
      | false ↦ λ fails h. let rest = in_filter_from p q z h in (inr rest.0, rest.1)
    ] refl here

pub in_filter : {X : Type 0} (p : X → Bool) (q : List X) (z : X) → IsIn z q → p z ≡ true → IsIn z (filter p q)
in_filter p [] z here passes = absurd here
in_filter p (x ∷ q) z here passes =
    elim (p x) as (λ b. p x ≡ b → IsIn z (cond b (x ∷ filter p q) (filter p q))) [
      | true ↦ λ _. elim here [ inl same ↦ inl same | inr later ↦ inr (in_filter p q z later passes) ]
      | false ↦ λ fails. elim here [
        | inl same ↦ absurd (true≢false (sym passes ∙ ap p (sym same) ∙ fails))
        | inr later ↦ in_filter p q z later passes
      ]
    ] refl

pub rising_filter : (p : Scored → Bool) (q : List Scored) → IsRising q → IsRising (filter p q)
rising_filter p [] rising = tt
rising_filter p (x ∷ q) rising =
    elim (p x) as (λ b. IsRising (cond b (x ∷ filter p q) (filter p q))) [
      | true ↦ (λ y here. rising.0 y (in_filter_from p q y here).0, rising_filter p q rising.1)
      | false ↦ rising_filter p q rising.1
    ]

-- ---- one put in

pub in_insert_from : (q : List Scored) (z y : Scored) → IsIn y (insert_key scored_cmp q z) → (z ≡ y) ⊎ IsIn y q
in_insert_from [] z y (inl same) = inl same
in_insert_from [] z y (inr none) = absurd none
in_insert_from (x ∷ q) z y here =
    elim (scored_cmp z x) as (λ r. IsIn y (match_ordering r (z ∷ x ∷ q) (x ∷ q) (x ∷ insert_key scored_cmp q z)) → (z ≡ y) ⊎ IsIn y (x ∷ q)) [
      | Less ↦ λ h. h
      | Equal ↦ λ h. inr h
      | Greater ↦ λ h. elim h [
        | inl same ↦ inr (inl same)
        | inr later ↦ elim (in_insert_from q z y later) [ inl it ↦ inl it | inr rest ↦ inr (inr rest) ]
      ]
    ] here

pub in_insert : (q : List Scored) (z y : Scored) → (z ≡ y) ⊎ IsIn y q → IsIn y (insert_key scored_cmp q z)
in_insert [] z y (inl same) = inl same
in_insert [] z y (inr here) = absurd here
in_insert (x ∷ q) z y either =
    elim (scored_cmp z x) as (λ r. scored_cmp z x ≡ r → IsIn y (match_ordering r (z ∷ x ∷ q) (x ∷ q) (x ∷ insert_key scored_cmp q z))) [
      | Less ↦ λ e. either
      | Equal ↦ λ e. elim either [ inl same ↦ inl (sym (scored_exact z x e) ∙ same) | inr there ↦ there ]
      | Greater ↦ λ e. elim either [
        | inl same ↦ inr (in_insert q z y (inl same))
        | inr there ↦ elim there [ inl first ↦ inl first | inr later ↦ inr (in_insert q z y (inr later)) ]
      ]
    ] refl

pub rising_insert : (q : List Scored) (z : Scored) → IsRising q → IsRising (insert_key scored_cmp q z)
rising_insert [] z rising = (λ y here. absurd here, tt)
rising_insert (x ∷ q) z rising =
    elim (scored_cmp z x) as (λ r. scored_cmp z x ≡ r → IsRising (match_ordering r (z ∷ x ∷ q) (x ∷ q) (x ∷ insert_key scored_cmp q z))) [
      | Less ↦ λ e. (
        λ y here. elim here [
          | inl same ↦ subst (λ w. scored_cmp z w ≡ Less) same e
          | inr later ↦ scored_total.trans z x y e (rising.0 y later)
        ],
        rising,
      )
      | Equal ↦ λ e. rising
      | Greater ↦ λ e. (
        λ y here. elim (in_insert_from q z y here) [
          | inl same ↦ subst (λ w. scored_cmp x w ≡ Less) same (scored_total.antisymm x z ∙ ap ordering_reverse e)
          | inr later ↦ rising.0 y later
        ],
        rising_insert q z rising.1,
      )
    ] refl
