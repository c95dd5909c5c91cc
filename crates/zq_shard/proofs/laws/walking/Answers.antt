use Rattle.zq_shard.proofs.Walks.{adds_none_old, begins_whole, ends_whole, moves_down, stays_kept}
use Rattle.zq_shard.proofs.laws.walking.Goals as goal

pub returns-clause-begins : goal.returns-clause-begins
returns-clause-begins c = begins_whole

pub returns-clause-kept : goal.returns-clause-kept
returns-clause-kept c = stays_kept

pub returns-clause-new : goal.returns-clause-new
returns-clause-new c = adds_none_old

pub returns-clause-walked : goal.returns-clause-walked
returns-clause-walked c = moves_down

pub returns-clause-ends : goal.returns-clause-ends
returns-clause-ends c = ends_whole
