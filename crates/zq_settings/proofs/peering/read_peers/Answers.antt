use Rattle.zq_settings.proofs.Seen.{no_peers}
use Rattle.zq_settings.proofs.peering.read_peers.Goals as goal

pub new-requires-in_default : goal.new-requires-in_default
new-requires-in_default c = no_peers _ c.new.ensures.items
