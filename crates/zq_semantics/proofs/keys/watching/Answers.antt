use Rattle.zq_semantics.proofs.OneKey.{stays_as_it_was}
use Rattle.zq_semantics.proofs.keys.watching.Goals as goal

pub returns : goal.returns
returns c = λ rule K S T vectors keys key some world closed within had unchanged watched. stays_as_it_was K S T vectors keys key some world closed within had unchanged watched rule
