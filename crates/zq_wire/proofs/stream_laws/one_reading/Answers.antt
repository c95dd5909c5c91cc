use Rattle.zq_wire.proofs.Once.{breaks_alone, breaks_once, splits_once, written_splits}
use Rattle.zq_wire.proofs.stream_laws.one_reading.Goals as goal

pub returns-clause-splits : goal.returns-clause-splits
returns-clause-splits c = splits_once

pub returns-clause-breaks : goal.returns-clause-breaks
returns-clause-breaks c = breaks_once

pub returns-clause-apart : goal.returns-clause-apart
returns-clause-apart c = breaks_alone

pub returns-clause-written : goal.returns-clause-written
returns-clause-written c = written_splits
