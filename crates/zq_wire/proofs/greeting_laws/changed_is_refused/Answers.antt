use Rattle.zq_wire.proofs.Changed.{changed_collides}
use Rattle.zq_wire.proofs.greeting_laws.changed_is_refused.Goals as goal

pub returns : goal.returns
returns c = changed_collides
