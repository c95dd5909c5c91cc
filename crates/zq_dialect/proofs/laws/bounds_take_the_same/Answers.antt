use Rattle.zq_dialect.proofs.BoundValues.{bounds_take_the_same}
use Rattle.zq_dialect.proofs.laws.bounds_take_the_same.Goals as goal

pub returns : goal.returns
returns c = bounds_take_the_same
