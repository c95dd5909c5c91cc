use Rattle.std.proofs.Common.{take}
use Rattle.std.specs.List.{AllZip}
use Rattle.zq_session.proofs.lending.make_sites.Given as goal
use Rattle.zq_session.specs.LentSites.{IsMadeBy}

abbrev pub invariant-loop-plan : goal.invariant-loop-plan
invariant-loop-plan l = AllZip IsMadeBy (take l.plan-index l.plans) l.made.items
