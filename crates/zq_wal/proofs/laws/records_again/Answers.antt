use Rattle.zq_wal.proofs.Floors.{floor_again, rest_is_body}
use Rattle.zq_wal.proofs.ReadAgain.{has_one_spelling}
use Rattle.zq_wal.proofs.Outcomes.{recovered_of}
use Rattle.zq_wal.proofs.laws.records_again.Goals as goal

pub returns-clause-read : goal.returns-clause-read
returns-clause-read c = recovered_of

pub returns-clause-spelling : goal.returns-clause-spelling
returns-clause-spelling c = has_one_spelling

pub returns-clause-floor : goal.returns-clause-floor
returns-clause-floor c = floor_again

pub returns-clause-body : goal.returns-clause-body
returns-clause-body c = rest_is_body
