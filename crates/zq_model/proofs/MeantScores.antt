-- A member's score in the image of its heap is the score that the set means.
use Rattle.std.proofs.Common.{◌≡◌, ℕ, ℤ, List, None, Option, Some, refl, subst, sym, ap, ◌∙◌}
use Rattle.zq_model.proofs.Kept.{kept_from, kept_of, kept_there, kept_value}
use Rattle.zq_model.proofs.Living.{live_heap, live_stands, standing_lives}
use Rattle.zq_model.proofs.Preferred.{HasValue, IsNoWorse-both, score_best, score_reached, score_some}
use Rattle.zq_model.proofs.Standing.{standing_heap}
use Rattle.zq_model.specs.Entry.{Addition}
use Rattle.zq_model.specs.Heaps.{heap_of}
use Rattle.zq_model.specs.Image.{entry_at, image_of}
use Rattle.zq_model.specs.Joining.{HasAddition}
use Rattle.zq_model.specs.Meaning.{IsLive, IsScore, value_of_put}
use Rattle.zq_model.specs.Operation.{Operation}
use Rattle.zq_model.specs.Rule.{IsNoWorse, Rule}
use Rattle.zq_model.specs.Score.{score_of, value_of}
use Rattle.zq_model.specs.Sets.{IsWorld}

-- the score of a member in the image of a heap
abbrev pub score_in : Rule → List Operation → ℕ → List ℕ → List ℕ → Option ℤ
score_in rule S h k m = score_of rule (entry_at (image_of S h).members (k, m))

-- a member has no more than one score
pub score_one : (rule : Rule) (S : List Operation) (k m : List ℕ) (x y : ℤ) → IsScore rule S k m x → IsScore rule S k m y → x ≡ y
score_one rule S k m x y a b =
    IsNoWorse-both rule x y
    (subst (IsNoWorse rule x) b.reached.2 (a.best b.reached.0 b.reached.1))
    (subst (IsNoWorse rule y) a.reached.2 (b.best a.reached.0 a.reached.1))

module _ (rule : Rule) (K : ℕ) (S : List Operation) (h : ℕ) (k m : List ℕ) (world : IsWorld K S) where
  score_put_of : (x : ℤ) → score_in rule S h k m ≡ Some x → (p : Operation) × IsLive S k m p × (value_of_put S p ≡ x) × (p.heap ≡ h)
  score_put_of x is =
      let value : HasValue (entry_at (image_of S h).members (k, m)) x = score_reached rule _ x is in
      let from = kept_from S h k m value.0 value.1 value.2 in
      (from.0, standing_lives from.1, sym (kept_value K S h k m value.0 from.0 world from.1) ∙ ap value_of from.2 ∙ value.3, standing_heap from.1)

  -- only the image of its heap has a score of a member
  pub score_heap : (x : ℤ) → score_in rule S h k m ≡ Some x → heap_of k m K ≡ h
  score_heap x is = let put = score_put_of x is in sym (live_heap K S k m put.0 world put.1) ∙ put.3

  live_value : (p : Operation) → IsLive S k m p → heap_of k m K ≡ h → (a : Addition) × HasAddition (image_of S h) k m p.site a × (value_of a ≡ value_of_put S p)
  live_value p live here =
      let stands = live_stands S h k m p.site p live (live_heap K S k m p world live ∙ here) refl in
      (kept_of S h k m p.site p, kept_there K S h k m p.site p world stands, kept_value K S h k m p.site p world stands)

  pub score_is : (x : ℤ) → score_in rule S h k m ≡ Some x → IsScore rule S k m x
  score_is x is =
      let put = score_put_of x is in
      record {
        reached = (put.0, put.1, put.2);
        best = λ p live.
            let a = live_value p live (score_heap x is) in
            subst (IsNoWorse rule x) a.2 (score_best rule _ x p.site a.0 is a.1);
      }

  pub no_score : heap_of k m K ≡ h → score_in rule S h k m ≡ None → (p : Operation) → IsLive S k m p → ⊥
  no_score here none p live = let a = live_value p live here in score_some rule _ p.site a.0 a.1 none

  pub none_score : ((p : Operation) → IsLive S k m p → ⊥) → score_in rule S h k m ≡ None
  none_score dead =
      elim (score_in rule S h k m) as (λ r. score_in rule S h k m ≡ r → r ≡ None) [
        | None ↦ λ is. refl
        | Some x ↦ λ is. let put = score_put_of x is in absurd (dead put.0 put.1)
      ] refl

  pub score_there : (x : ℤ) → heap_of k m K ≡ h → IsScore rule S k m x → score_in rule S h k m ≡ Some x
  score_there x here means =
      elim (score_in rule S h k m) as (λ r. score_in rule S h k m ≡ r → r ≡ Some x) [
        | None ↦ λ none. absurd (no_score here none means.reached.0 means.reached.1)
        | Some y ↦ λ is. ap (λ z. Some z) (score_one rule S k m y x (score_is y is) means)
      ] refl
