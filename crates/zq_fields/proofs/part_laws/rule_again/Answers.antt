use Rattle.zq_fields.proofs.PartsAgain.{rule_read}
use Rattle.zq_fields.proofs.part_laws.rule_again.Goals as goal

pub returns : goal.returns
returns c = rule_read
