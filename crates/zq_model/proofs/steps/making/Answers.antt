use Rattle.zq_model.proofs.Made.{making_closed, making_image, making_world}
use Rattle.zq_model.proofs.steps.making.Goals as goal

pub returns : goal.returns
returns c = record {
  image = making_image;
  world = making_world;
  closed = making_closed;
}
