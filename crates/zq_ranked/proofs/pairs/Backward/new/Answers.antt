use Rattle.zq_ranked.proofs.Paths.{backward_none}
use Rattle.zq_ranked.proofs.pairs.Backward.new.Goals as goal

pub enter_back-requires-clause-spent : goal.enter_back-requires-clause-spent
enter_back-requires-clause-spent c = backward_none c.new-path.result.levels c.args.root.now.1 c.new-path.ensures.backward
