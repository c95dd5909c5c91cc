use Rattle.zq_model.proofs.NewOperation.{new_has_seen, new_outside, world_rest}
use Rattle.zq_model.proofs.Taken.{early_outside, known_here, taken_known, taking_new}
use Rattle.zq_model.specs.Sets.{IsNew}
use Rattle.zq_model.proofs.steps.answering.Goals as goal

pub returns : goal.returns
returns c = record {
  known = λ K S o v world closed vector e. known_here K S o v world closed vector (taken_known v o e);
  early = λ K S o v world closed vector e. early_outside K S o v world closed vector e;
  new = λ K S o v world closed vector e.
      let new : IsNew S o = taking_new K S o v world closed vector e in
      (new_outside S o new, new_has_seen K S o (world_rest K S o world) closed new);
}
