use Rattle.zq_wire.proofs.Stays.{answer_stays, refusal_stays, welcome_stays}
use Rattle.zq_wire.proofs.greeting_laws.decided_stays.Goals as goal

pub returns-clause-welcome : goal.returns-clause-welcome
returns-clause-welcome c = welcome_stays

pub returns-clause-refusal : goal.returns-clause-refusal
returns-clause-refusal c = refusal_stays

pub returns-clause-answer : goal.returns-clause-answer
returns-clause-answer c = answer_stays
