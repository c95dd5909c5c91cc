-- A list may go to another thread.
use denote.Param.Send.{IsSend, sendable}
use Rattle.std.proofs.Crossing.{crosses}
use Rattle.zq_ranked.proofs.node.Node.TheLaws.TheKnot as knot
use Rattle.zq_ranked.proofs.pair.Pair.TheSendSync.{the_send}
use Rattle.zq_ranked.specs.contracts.ranked.Ranked.{the_row}

pub ranked_send : IsSend the_row
ranked_send = search (sendable, crosses, knot.crosses, the_send) depth 30
