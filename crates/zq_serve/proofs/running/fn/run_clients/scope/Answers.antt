use contract.Lifetimes.{Lfts}
use denote.Param.{param}
use denote.Param.Send.{IsSend, IsSync, sendable}
use Rattle.std.proofs.Crossing.{crosses}
use Rattle.zq_serve.proofs.Crossing.{client_acceptor_send, inboxes_send, worker_send}
use Rattle.zq_serve.proofs.running.fn.run_clients.scope.Given.{Over}
use Rattle.zq_serve.proofs.running.fn.run_clients.scope.Goals as goal
use Rattle.zq_serve.proofs.running.fn.run_clients.scope.Lts.{arg-3-1, arg-11-1}

-- what a worker runs may go to another thread
worker_crosses : (g : Over) (κs : Lfts 10) → IsSync g.row.L → IsSend (param 1 (arg-3-1 g.row.L g.L.laws g.L.Log-dict g.L.Clock-dict g.L.Threads-dict g.L.Wait-dict κs))
worker_crosses g κs log = search (worker_send, inboxes_send, sendable, crosses) depth 30 fits 50000

pub spawn-requires-send-F : goal.spawn-requires-send-F
spawn-requires-send-F g c κs within = worker_crosses g κs c.requires.1

-- and what accepts
acceptor_crosses : (g : Over) (κs : Lfts 9) → IsSync g.row.L → IsSend (param 1 (arg-11-1 g.row.L g.L.laws g.L.Log-dict g.L.Clock-dict g.L.Threads-dict g.L.Wait-dict κs))
acceptor_crosses g κs log = search (client_acceptor_send, inboxes_send, sendable, crosses) depth 30 fits 50000

pub spawn-requires-in-loop-client_acceptor-send-F : goal.spawn-requires-in-loop-client_acceptor-send-F
spawn-requires-in-loop-client_acceptor-send-F g c κs within = acceptor_crosses g κs c.requires.1
