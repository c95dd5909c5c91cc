use Rattle.zq_dialect.proofs.OlderNames.{others_stay}
use Rattle.zq_dialect.proofs.laws.other_names.Goals as goal

pub returns : goal.returns
returns c = others_stay
