use contract.Lifetimes.{Lfts}
use denote.Param.{param}
use denote.Param.Send.{IsSend, IsSync, sendable}
use Rattle.std.proofs.Crossing.{crosses}
use Rattle.zq_site.proofs.Crossing.{shared_send}
use Rattle.zq_site.proofs.running.fn.run_site.scope.Given.{Over}
use Rattle.zq_site.proofs.running.fn.run_site.scope.Goals as goal
use Rattle.zq_site.proofs.running.fn.run_site.scope.Lts.{arg-2-1, arg-9-1}
use Rattle.zq_loop.proofs.Crossing.{port_sync}
use Rattle.zq_serve.proofs.Crossing.{linker_send}

-- what the thread does that takes calls into the logs may go to another thread
drainer_crosses : (g : Over) (κs : Lfts 10) → IsSync g.row.N → IsSync g.row.L →
    IsSend (param 1 (arg-2-1 g.row.N g.row.L g.row.W g.row.N-Dir g.N.laws g.L.laws g.W.laws g.N.Dir.laws g.N.Net-dict g.N.Files-dict g.N.Dir.Read-dict g.N.Memory-dict g.L.Log-dict g.L.RandomSource-dict g.L.Clock-dict g.L.Threads-dict g.L.Wait-dict g.W.Write-dict g.N.Dir.Destruct-dict κs))
drainer_crosses g κs net log = search (linker_send, shared_send, sendable, crosses) depth 30 fits 50000

pub spawn-requires-send-F : goal.spawn-requires-send-F
spawn-requires-send-F g c κs within = drainer_crosses g κs c.requires.1.1.1.1.1 c.requires.1.1.1.1.2

-- and what the link thread does
linker_crosses : (g : Over) (κs : Lfts 10) → IsSync g.row.L →
    IsSend (param 1 (arg-9-1 g.row.N g.row.L g.row.W g.row.N-Dir g.N.laws g.L.laws g.W.laws g.N.Dir.laws g.N.Net-dict g.N.Files-dict g.N.Dir.Read-dict g.N.Memory-dict g.L.Log-dict g.L.RandomSource-dict g.L.Clock-dict g.L.Threads-dict g.L.Wait-dict g.W.Write-dict g.N.Dir.Destruct-dict κs))
linker_crosses g κs log = search (linker_send, shared_send, port_sync, sendable, crosses) depth 30 fits 50000

pub spawn-requires-then-is_ok-2-send-F : goal.spawn-requires-then-is_ok-2-send-F
spawn-requires-then-is_ok-2-send-F g c κs within = linker_crosses g κs c.requires.1.1.1.1.2
