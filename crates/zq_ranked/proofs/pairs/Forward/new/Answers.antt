use Rattle.zq_ranked.proofs.Paths.{onward_none}
use Rattle.zq_ranked.proofs.pairs.Forward.new.Goals as goal

pub enter-requires-clause-spent : goal.enter-requires-clause-spent
enter-requires-clause-spent c = onward_none c.new-path.result.levels c.args.root.now.1 c.new-path.ensures.onward
