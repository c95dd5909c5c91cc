use Rattle.zq_model.proofs.BoundedImages.{bounded_empty, bounded_join, bounded_set, bounded_sound, bounded_step}
use Rattle.zq_model.proofs.bounded.keeping_bounds.Goals as goal

pub returns-clause-nothing : goal.returns-clause-nothing
returns-clause-nothing c = bounded_empty

pub returns-clause-of_set : goal.returns-clause-of_set
returns-clause-of_set c = bounded_set

pub returns-clause-step : goal.returns-clause-step
returns-clause-step c = bounded_step

pub returns-clause-joins : goal.returns-clause-joins
returns-clause-joins c = bounded_join

pub returns-clause-sound : goal.returns-clause-sound
returns-clause-sound c = bounded_sound
