use Rattle.zq_spread.proofs.Called.{take_range}
use Rattle.zq_spread.proofs.calling_all.every.Goals as goal

pub returns : goal.returns
returns c = take_range 0 16 c.args.heaps c.requires
