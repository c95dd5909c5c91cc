use Rattle.zq_resp.proofs.Completed.{beginning_is_part, part_begins}
use Rattle.zq_resp.proofs.laws.part_is_a_beginning.Goals as goal

pub returns-clause-begins : goal.returns-clause-begins
returns-clause-begins c = part_begins

pub returns-clause-part : goal.returns-clause-part
returns-clause-part c = beginning_is_part
