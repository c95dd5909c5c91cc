use Rattle.zq_fields.proofs.Counters.{dense_again}
use Rattle.zq_fields.proofs.Entries.{sparse_again}
use Rattle.zq_fields.proofs.part_laws.vector_again.Goals as goal

pub returns-clause-dense : goal.returns-clause-dense
returns-clause-dense c = dense_again

pub returns-clause-sparse : goal.returns-clause-sparse
returns-clause-sparse c = sparse_again
