use contract.Lifetimes.{Lfts}
use denote.Param.{param}
use denote.Param.Send.{IsSync, sendable}
use Rattle.site_tests.proofs.spread.taking.take_in_crowd.Given.{Over}
use Rattle.site_tests.proofs.spread.taking.take_in_crowd.Goals as goal
use Rattle.site_tests.proofs.spread.taking.take_in_crowd.Lts.{arg-0-2}
use Rattle.site_tests.specs.contracts.spread.taking.take_in_crowd.{R-row}
use Rattle.std.proofs.Crossing.{crosses}
use Rattle.zq_spread.proofs.Crossing.{pass_send, site_sync}

-- what each thread does may be seen by several
crosses_over : (g : Over) (κs : Lfts 10) → IsSync (R-row g.row.R) → IsSync (param 2 (arg-0-2 g.row.R g.R.laws g.R.Threads-dict g.R.Wait-dict κs))
crosses_over g κs rt = search (site_sync, sendable, crosses) depth 30 fits 50000

pub for_each_mut-requires-send-T : goal.for_each_mut-requires-send-T
for_each_mut-requires-send-T g c κs within = search (pass_send, sendable, crosses) depth 30

pub for_each_mut-requires-sync-F : goal.for_each_mut-requires-sync-F
for_each_mut-requires-sync-F g c κs within = crosses_over g κs c.type_bounds.sync-R
