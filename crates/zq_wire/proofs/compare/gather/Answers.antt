use Rattle.zq_wire.proofs.Differing.{none_from, none_since}
use Rattle.zq_wire.proofs.compare.gather.Goals as goal

pub returns : goal.returns
returns c = (
  none_since c.args.differing c.args.byte c.args.other,
  λ same. none_from c.args.differing c.args.byte c.args.other same.0 same.1,
)
