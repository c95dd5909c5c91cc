use contract.Lifetimes.{Lfts}
use denote.Param.{param}
use denote.Param.Send.{IsSend, IsSync, sendable}
use Rattle.std.proofs.Crossing.{crosses}
use Rattle.zq_drill.proofs.Crossing.{post_send}
use Rattle.zq_drill.proofs.running.fn.call_all.scope.Given.{Over}
use Rattle.zq_drill.proofs.running.fn.call_all.scope.Goals as goal
use Rattle.zq_drill.proofs.running.fn.call_all.scope.Lts.{arg-4-1}
use Rattle.zq_peers.proofs.Crossing.{mailbox_sync}

-- what a caller does may go to another thread
crosses_over : (g : Over) (κs : Lfts 8) → IsSync g.row.R → IsSend (param 1 (arg-4-1 g.row.R g.R.laws g.R.Threads-dict g.R.Wait-dict κs))
crosses_over g κs rt = search (post_send, mailbox_sync, sendable, crosses) depth 30 fits 50000

pub spawn-requires-send-F : goal.spawn-requires-send-F
spawn-requires-send-F g c κs within = crosses_over g κs c.requires.1
