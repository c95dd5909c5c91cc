use Rattle.zq_queue.proofs.Listeds.{listed_rises, listed_score, queue_listed, score_listed}
use Rattle.zq_queue.proofs.laws.listing.Goals as goal

pub returns-clause-rising : goal.returns-clause-rising
returns-clause-rising c = λ rule entries. listed_rises rule entries

pub returns-clause-members : goal.returns-clause-members
returns-clause-members c = λ rule entries x member. (listed_score rule entries x member, score_listed rule entries x member)

pub returns-clause-queue : goal.returns-clause-queue
returns-clause-queue c = λ rule key members entries same. queue_listed rule entries key members same
