use Rattle.zq_restarts.proofs.Happened.{linked_run}
use Rattle.zq_restarts.proofs.Standings.{new_stand}
use Rattle.zq_restarts.proofs.runs.restarting.Goals as goal

pub returns-clause-new : goal.returns-clause-new
returns-clause-new c = new_stand

pub returns-clause-links : goal.returns-clause-links
returns-clause-links c rule K opening happenings two begins are = linked_run rule K two c.naming.ensures.score opening begins happenings are
