-- What stands in the join of two sound images.

use Rattle.std.proofs.Common.{ℕ, ◌<◌, ◌≡◌, List, get_or, length, max, Option, Some, refl, sym, ap, ◌∙◌, inl, inr, arith, subst}
use Rattle.std.specs.Prelude.{slice_index, ◌↔◌, ◌⊎◌}
use Rattle.std.proofs.lemmas.Bool.{cases_lt}
use Rattle.std.proofs.lemmas.List.{get_or_past}
use Rattle.zq_model.specs.Entry.{Addition, join_site}
use Rattle.zq_model.specs.Image.{Image, addition_at, entry_at, join}
use Rattle.zq_model.specs.Joining.{HasAddition, IsJoined, IsKnown, IsSound, Stands}
use Rattle.zq_model.specs.Sets.{SITES}
use Rattle.zq_model.proofs.Sites.{by_site-at, length-by_site}
use Rattle.zq_model.proofs.JoinAt.{addition_at-join, addition_at-join-past}
use Rattle.zq_model.proofs.Outcomes.{Outcome, site-both, site-first, site-outcome, site-second, site-stands}

-- a known dot is of one of the sites
pub known_site : (v : List ℕ) (s n : ℕ) → length v ≡ SITES → IsKnown v s n → s < SITES
known_site v s n w h = elim (cases_lt s SITES) [ inl l ↦ l | inr l ↦ (let past : get_or v s 0 ≡ 0 = get_or_past v s 0 (omega arith) in absurd (omega (arith, h.0, h.1))) ]

-- what the image has of the site s at the member m of the key k
abbrev pub addition_in : Image → List ℕ → List ℕ → ℕ → Option Addition
addition_in a k m s = addition_at (entry_at a.members (k, m)) s

module _ (a b : Image) (k m : List ℕ) where
  -- what stands in a join is at a site, and is the join of what the sides have of the site
  joined_site : (s : ℕ) (z : Addition) → HasAddition (join a b) k m s z
      → (s < SITES) × (join_site a.vector b.vector s (addition_in a k m s) (addition_in b k m s) ≡ Some z)
  joined_site s z h = elim (cases_lt s SITES) [
    | inl l ↦ (l, sym (addition_at-join a b (k, m) s l) ∙ h)
    | inr l ↦ cc (addition_at-join-past a b (k, m) s l, h)
  ]

  site_of_first : (s : ℕ) (x : Addition) → IsSound a → HasAddition a k m s x → s < SITES
  site_of_first s x p h = known_site a.vector s x.n p.wide (p.known k m s x h)

  site_of_second : (s : ℕ) (y : Addition) → IsSound b → HasAddition b k m s y → s < SITES
  site_of_second s y q h = known_site b.vector s y.n q.wide (q.known k m s y h)

  pub join_stands : (s n : ℕ) → IsSound a → IsSound b
      → Stands (join a b) k m s n ↔ ((Stands a k m s n × Stands b k m s n)
      ⊎ ((Stands a k m s n × (IsKnown b.vector s n → ⊥)) ⊎ (Stands b k m s n × (IsKnown a.vector s n → ⊥))))
  join_stands s n p q = (
    λ h. let j = joined_site s h.0 h.1 in subst (λ i. Outcome a.vector b.vector s i (addition_in a k m s) (addition_in b k m s)) h.2 (site-outcome a.vector b.vector s h.0 _ _ j.1),
    λ h. let z = site-stands a.vector b.vector s n _ _ (λ x. p.known k m s x) (λ y. q.known k m s y) h in (z.0, addition_at-join a b (k, m) s (site h) ∙ z.1, z.2),
  )
    where
      site : Outcome a.vector b.vector s n (addition_in a k m s) (addition_in b k m s) → s < SITES
      site (inl h) = site_of_first s h.0.0 p h.0.1
      site (inr (inl h)) = site_of_first s h.0.0 p h.0.1
      site (inr (inr h)) = site_of_second s h.0.0 q h.0.1

  pub join_both : (s : ℕ) (x y z : Addition) → HasAddition a k m s x → HasAddition b k m s y → x.n ≡ y.n → HasAddition (join a b) k m s z
      → IsJoined a.vector b.vector x y z
  join_both s x y z f g e h =
      site-both a.vector b.vector s x y z e ((λ i. join_site a.vector b.vector s (sym f i) (sym g i)) ∙ (joined_site s z h).1)

  pub join_first : (s : ℕ) (x : Addition) → IsSound a → IsSound b → HasAddition a k m s x → (IsKnown b.vector s x.n → ⊥) → HasAddition (join a b) k m s x
  join_first s x p q f h =
      addition_at-join a b (k, m) s (site_of_first s x p f) ∙ ap (λ o. join_site a.vector b.vector s o (addition_in b k m s)) f ∙ site-first a.vector b.vector s x _ (λ y. q.known k m s y) h

  pub join_second : (s : ℕ) (y : Addition) → IsSound a → IsSound b → HasAddition b k m s y → (IsKnown a.vector s y.n → ⊥) → HasAddition (join a b) k m s y
  join_second s y p q g h =
      addition_at-join a b (k, m) s (site_of_second s y q g) ∙ ap (join_site a.vector b.vector s (addition_in a k m s)) g
      ∙ site-second a.vector b.vector s y _ (λ x. p.known k m s x) (q.known k m s y g) h

pub join_vector_at : (a b : Image) (t : ℕ) → t < SITES → slice_index (join a b).vector t ≡ max (slice_index a.vector t) (slice_index b.vector t)
join_vector_at a b t h = by_site-at _ t 0 h

known_by_first : (a b : Image) (s n : ℕ) → s < SITES → IsKnown a.vector s n → IsKnown (join a b).vector s n
known_by_first a b s n l h = (h.0, let e = join_vector_at a b s l in omega arith)

known_by_second : (a b : Image) (s n : ℕ) → s < SITES → IsKnown b.vector s n → IsKnown (join a b).vector s n
known_by_second a b s n l h = (h.0, let e = join_vector_at a b s l in omega arith)

first_known : (a b : Image) (k m : List ℕ) (s n : ℕ) → IsSound a → Stands a k m s n → IsKnown (join a b).vector s n
first_known a b k m s n p h =
    let is : IsKnown a.vector s n = subst (IsKnown a.vector s) h.2 (p.known k m s h.0 h.1) in
    known_by_first a b s n (known_site a.vector s n p.wide is) is

second_known : (a b : Image) (k m : List ℕ) (s n : ℕ) → IsSound b → Stands b k m s n → IsKnown (join a b).vector s n
second_known a b k m s n q h =
    let is : IsKnown b.vector s n = subst (IsKnown b.vector s) h.2 (q.known k m s h.0 h.1) in
    known_by_second a b s n (known_site b.vector s n q.wide is) is

pub join_sound : (a b : Image) → IsSound a → IsSound b → IsSound (join a b)
join_sound a b p q = record {
  wide = length-by_site _;
  known = λ k m s z h. elim ((join_stands a b k m s z.n p q).0 (z, h, refl)) [
    | inl f ↦ first_known a b k m s z.n p f.0
    | inr (inl f) ↦ first_known a b k m s z.n p f.0
    | inr (inr f) ↦ second_known a b k m s z.n q f.0
  ];
}
