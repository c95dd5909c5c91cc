use Rattle.zq_notes.proofs.FromCalls.{sees, thread_of}
use Rattle.zq_notes.proofs.InOrder.{ordered}
use Rattle.zq_notes.proofs.history.calling.Goals as goal

pub returns-clause-thread : goal.returns-clause-thread
returns-clause-thread c = thread_of

pub returns-clause-ordered : goal.returns-clause-ordered
returns-clause-ordered c = ordered

pub returns-clause-sees : goal.returns-clause-sees
returns-clause-sees c = sees
