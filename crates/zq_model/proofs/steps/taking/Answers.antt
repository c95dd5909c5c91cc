use Rattle.std.proofs.Common.{inr, subst, ⊎_elim, ◌∷◌}
use Rattle.zq_model.proofs.Same.{image_of-same}
use Rattle.zq_model.proofs.StepImages.{image_of-step}
use Rattle.zq_model.proofs.Taken.{known_here, taking_new}
use Rattle.zq_model.specs.Sets.{IsIn}
use Rattle.zq_model.proofs.steps.taking.Goals as goal

pub returns : goal.returns
returns c = record {
  fresh = λ K S o v world closed vector e. image_of-step K S o world closed (taking_new K S o v world closed vector e);
  known = λ K S o v heap world closed vector known.
      let here : IsIn o S = known_here K S o v world closed vector known in
      image_of-same K (o ∷ S) S heap (record { forth = λ p i. ⊎_elim (λ same. subst (λ x. IsIn x S) same here) (λ there. there) i; back = λ p i. inr i }) world;
}
