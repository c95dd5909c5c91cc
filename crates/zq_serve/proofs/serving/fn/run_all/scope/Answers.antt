use contract.Lifetimes.{Lfts}
use denote.Param.{param}
use denote.Param.Send.{IsSend, IsSync, sendable}
use Rattle.std.proofs.Crossing.{crosses}
use Rattle.zq_peers.proofs.Crossing.{mailbox_sync}
use Rattle.zq_serve.proofs.Crossing.{linker_send}
use Rattle.zq_serve.proofs.serving.fn.run_all.scope.Given.{Over}
use Rattle.zq_serve.proofs.serving.fn.run_all.scope.Goals as goal
use Rattle.zq_serve.proofs.serving.fn.run_all.scope.Lts.{arg-2-1}

-- what a link thread runs may go to another thread
linker_crosses : (g : Over) (κs : Lfts 9) → IsSync g.row.L → IsSend (param 1 (arg-2-1 g.row.L g.L.laws g.L.Log-dict g.L.Clock-dict g.L.Threads-dict g.L.Wait-dict κs))
linker_crosses g κs log = search (linker_send, mailbox_sync, sendable, crosses) depth 30 fits 50000

pub spawn-requires-send-F : goal.spawn-requires-send-F
spawn-requires-send-F g c κs within = linker_crosses g κs c.requires.1
