use Rattle.zq_model.proofs.StepImages.{image_of-step}
use Rattle.zq_model.proofs.steps.stepping.Goals as goal

pub returns : goal.returns
returns c = image_of-step
