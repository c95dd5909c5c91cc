use Rattle.zq_notes.proofs.OneThread.{left_by_all-swap, one_thread, one_thread-swap, ordered-swap}
use Rattle.zq_notes.proofs.history.one_history.Goals as goal

pub returns-clause-one : goal.returns-clause-one
returns-clause-one c = one_thread

pub returns-clause-swaps : goal.returns-clause-swaps
returns-clause-swaps c = one_thread-swap

pub returns-clause-ordered : goal.returns-clause-ordered
returns-clause-ordered c = ordered-swap

pub returns-clause-leaves : goal.returns-clause-leaves
returns-clause-leaves c = λ opening front n m rest same in_order. left_by_all-swap front n m rest opening same in_order
