use Rattle.zq_wal.proofs.ReadAgain.{synced_is_read}
use Rattle.zq_wal.proofs.Outcomes.{outcome_keeps}
use Rattle.zq_wal.proofs.laws.synced_stays.Goals as goal

pub returns-clause-torn : goal.returns-clause-torn
returns-clause-torn c = outcome_keeps

pub returns-clause-read : goal.returns-clause-read
returns-clause-read c = synced_is_read
