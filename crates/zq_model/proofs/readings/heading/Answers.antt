use Rattle.zq_model.proofs.Heads.{head_over, rest_over}
use Rattle.zq_model.proofs.readings.heading.Goals as goal

pub returns : goal.returns
returns c = record { first = head_over; rest = rest_over }
