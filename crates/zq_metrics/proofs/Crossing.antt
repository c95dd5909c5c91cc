-- Counters may be shared by threads.
use denote.Param.Send.{IsSync, sendable}
use Rattle.std.proofs.Crossing.{crosses}
use Rattle.zq_metrics.specs.contracts.counters.Cell as Cell
use Rattle.zq_metrics.specs.contracts.counters.Counters as Counters
use Rattle.zq_metrics.specs.contracts.counters.WorkerCounters as WorkerCounters

cell_sync : IsSync Cell.the_row
cell_sync = search (sendable, crosses) depth 30

worker_sync : IsSync WorkerCounters.the_row
worker_sync = search (cell_sync, sendable, crosses) depth 30

pub counters_sync : IsSync Counters.the_row
counters_sync = search (worker_sync, sendable, crosses) depth 30
