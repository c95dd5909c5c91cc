use Rattle.zq_semantics.proofs.OneKey.{queue_same}
use Rattle.zq_semantics.proofs.keys.one_key.Goals as goal

pub returns : goal.returns
returns c = λ rule K S T key some world within all. queue_same K S T key world within all rule some
