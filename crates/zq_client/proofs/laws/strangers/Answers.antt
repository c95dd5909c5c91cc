use Rattle.zq_client.proofs.Strangers.{changes_nothing, tells_nothing, turned_away}
use Rattle.zq_client.proofs.laws.strangers.Goals as goal

pub returns : goal.returns
returns c = record { turned_away = turned_away; tells_nothing = tells_nothing; changes_nothing = changes_nothing }
