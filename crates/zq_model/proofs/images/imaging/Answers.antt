use Rattle.zq_model.proofs.Imaged.{image_means, image_one}
use Rattle.zq_model.proofs.images.imaging.Goals as goal

pub returns-clause-is : goal.returns-clause-is
returns-clause-is c = image_means

pub returns-clause-one : goal.returns-clause-one
returns-clause-one c = image_one
