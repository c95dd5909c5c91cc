-- The image of a set of a world is sound: its vector has the dots of its additions.

use Rattle.std.proofs.Common.{ℕ, ◌<◌, ◌≤◌, ◌≡◌, List, None, Option, Some, sym, ap, subst, ◌∙◌, inl, inr}
use Rattle.std.proofs.lemmas.Bool.{cases_lt}
use Rattle.zq_model.specs.Entry.{Addition, addition, live}
use Rattle.zq_model.specs.Image.{addition_at, image_of}
use Rattle.zq_model.specs.Joining.{IsKnown, IsSound}
use Rattle.zq_model.specs.Operation.{Operation}
use Rattle.zq_model.specs.Sets.{IsWorld, SITES, last, vector_of}
use Rattle.zq_model.proofs.Dots.{counter_positive, last_above}
use Rattle.zq_model.proofs.Entries.{addition_at-image_of, entry_at-image_of}
use Rattle.zq_model.proofs.Sites.{by_site-at, by_site-past, length-by_site}
use Rattle.zq_model.proofs.Standing.{IsStanding, live_some, standing_heap, standing_site}

-- what stands in an image is a Put of the set, which stands there too
standing_addition : (S : List Operation) (h : ℕ) (k m : List ℕ) (s : ℕ) (x : Addition) (o : Option Operation) → live S h k m s ≡ o → addition S h k m s o ≡ Some x
    → (p : Operation) × IsStanding S h k m s p × (x.n ≡ p.n)
standing_addition S h k m s x None e f = cc
standing_addition S h k m s x (Some p) e f = (p, live_some S h k m s p e, cc)

pub image_sound : (K : ℕ) (S : List Operation) (heap : ℕ) → IsWorld K S → IsSound (image_of S heap)
image_sound K S h world = record {
  wide = length-by_site _;
  known = λ k m s x f. elim (cases_lt s SITES) [
    | inl l ↦
        let p = standing_addition S h k m s x _ (λ i. live S h k m s) (sym (addition_at-image_of S h (k, m) s l) ∙ f) in
        let low : 0 < p.0.n = counter_positive K S p.0 world p.1.here in
        let high : p.0.n ≤ last S h s = last_above S h s p.0 p.1.here (standing_heap p.1) (standing_site p.1) in
        subst (IsKnown (vector_of S h) s) (sym p.2) (low, subst (λ n. p.0.n ≤ n) (sym (by_site-at (last S h) s 0 l)) high)
    | inr l ↦ cc (ap (λ e. addition_at e s) (entry_at-image_of S h (k, m)) ∙ by_site-past _ s None l, f)
  ];
}
