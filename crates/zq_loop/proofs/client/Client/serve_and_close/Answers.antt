use Rattle.zq_loop.proofs.AtSocket.{served-finished}
use Rattle.zq_loop.proofs.client.Client.serve_and_close.Goals as goal
use Rattle.zq_loop.specs.Attending.{beside, on_pairs}

pub returns-then-is_over-clause-served : goal.returns-then-is_over-clause-served
returns-then-is_over-clause-served g c = λ first begun p.
    served-finished g.S.Socket.does (beside g.A.Attends.others) (on_pairs g.A.Attends.answers) first _ begun _ _ _ (c.serve_by.ensures.served first begun p) c.close.ensures
