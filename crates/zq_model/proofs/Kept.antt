-- What the image of a set keeps of a Put: its counter, its score, and what the Bumps of each site add to it.
use Rattle.std.proofs.Common.{◌≡◌, ℕ, ◌+ℤ◌, List, None, Some, inl, inr, refl, subst, sym, ap, ◌∙◌, ◌<◌}
use Rattle.std.proofs.lemmas.Bool.{cases_lt}
use Rattle.std.proofs.lemmas.Option.{none-some, same_Some}
use Rattle.zq_model.proofs.Entries.{addition_at-image_of, entry_at-image_of}
use Rattle.zq_model.proofs.Places.{is_on_parts, is_put_of_parts}
use Rattle.zq_model.proofs.Sites.{by_site-at, by_site-past, length-by_site}
use Rattle.zq_model.proofs.Standing.{IsStanding, addition_is, live_some, standing_site}
use Rattle.zq_model.proofs.Totals.{site_sum_means, total-site_sums}
use Rattle.zq_model.specs.Entry.{Addition, addition, addition_of, live, site_sum}
use Rattle.zq_model.specs.Image.{addition_at, image_of}
use Rattle.zq_model.specs.Joining.{HasAddition, IsAdditionOf}
use Rattle.zq_model.specs.Meaning.{value_of_put}
use Rattle.zq_model.specs.Operation.{Operation, score_put}
use Rattle.zq_model.specs.Score.{total, value_of}
use Rattle.zq_model.specs.Sets.{IsWorld, SITES, by_site}

-- what the set's image keeps of the Put p of the site s on the member m of the key k
abbrev pub kept_of : List Operation → ℕ → List ℕ → List ℕ → ℕ → Operation → Addition
kept_of S h k m s p = record { n = p.n; score = score_put p.act; sums = by_site (site_sum S h k m s p.n) }

module _ (K : ℕ) (S : List Operation) (h : ℕ) (k m : List ℕ) (s : ℕ) (p : Operation) (world : IsWorld K S) (stands : IsStanding S h k m s p) where
  own_sum : (t : ℕ) → site_sum S h k m s p.n t ≡ site_sum S p.heap p.key p.member p.site p.n t
  own_sum t =
      let parts = is_put_of_parts h k m s p stands.put in
      let place = is_on_parts h k m p parts.0 in
      sym (λ i. site_sum S (place.0 i) (place.1 i) (place.2 i) (parts.1 i) p.n t)

  pub kept_means : IsAdditionOf S p (kept_of S h k m s p)
  kept_means = record {
    n = refl;
    score = refl;
    wide = length-by_site _;
    sums = λ t within. by_site-at _ t _ within ∙ own_sum t ∙ site_sum_means K S p t world;
  }

  pub kept_value : value_of (kept_of S h k m s p) ≡ value_of_put S p
  kept_value =
      ap (λ x. score_put p.act +ℤ x)
      (ap (λ f. total (by_site f)) (λ i t. own_sum t i) ∙ total-site_sums K S p world)

-- ---- where it stands in the image

addition_inside : (S : List Operation) (h : ℕ) (k m : List ℕ) (s : ℕ) (x : Addition) → addition_of S h k m s ≡ Some x → (p : Operation) × IsStanding S h k m s p × (kept_of S h k m s p ≡ x)
addition_inside S h k m s x is =
    elim (live S h k m s) as (λ r. live S h k m s ≡ r → addition S h k m s r ≡ Some x → (p : Operation) × IsStanding S h k m s p × (kept_of S h k m s p ≡ x)) [
      | None ↦ λ none e. absurd (none-some x e)
      | Some p ↦ λ found e. (p, live_some S h k m s p found, same_Some _ x e)
    ] refl is

-- what stands in the image of a set is kept of a Put that stands in the set
pub kept_from : (S : List Operation) (h : ℕ) (k m : List ℕ) (s : ℕ) (x : Addition) → HasAddition (image_of S h) k m s x → (p : Operation) × IsStanding S h k m s p × (kept_of S h k m s p ≡ x)
kept_from S h k m s x has = elim (cases_lt s SITES) [
  | inl within ↦ addition_inside S h k m s x (sym (addition_at-image_of S h (k, m) s within) ∙ has)
  | inr past ↦ absurd (none-some x (sym (ap (λ e. addition_at e s) (entry_at-image_of S h (k, m)) ∙ by_site-past (addition_of S h k m) s None past) ∙ has))
]

-- and what is kept of each Put that stands in the set stands in its image
pub kept_there : (K : ℕ) (S : List Operation) (h : ℕ) (k m : List ℕ) (s : ℕ) (p : Operation) → IsWorld K S → IsStanding S h k m s p → HasAddition (image_of S h) k m s (kept_of S h k m s p)
kept_there K S h k m s p world stands =
    let within : s < SITES = subst (λ t. t < SITES) (standing_site stands) (world.each p stands.here).site in
    addition_at-image_of S h (k, m) s within ∙ addition_is K S h k m s p world stands
