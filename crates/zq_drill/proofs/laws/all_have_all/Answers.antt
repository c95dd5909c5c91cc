use Rattle.zq_drill.proofs.Gathered.{all_have_all}
use Rattle.zq_drill.proofs.laws.all_have_all.Goals as goal

pub returns : goal.returns
returns c = all_have_all
