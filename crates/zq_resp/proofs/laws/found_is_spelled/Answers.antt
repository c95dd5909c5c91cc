use Rattle.zq_resp.proofs.Spelled.{request_again, request_got}
use Rattle.zq_resp.proofs.laws.found_is_spelled.Goals as goal

pub returns-clause-spelled : goal.returns-clause-spelled
returns-clause-spelled c = request_got

pub returns-clause-found : goal.returns-clause-found
returns-clause-found c = request_again
