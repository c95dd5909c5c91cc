use contract.Lifetimes.{Lfts}
use denote.Param.{param}
use denote.Param.Send.{IsSend, IsSync, sendable}
use denote.Ref.{NamedLft}
use Rattle.zq_bench.proofs.pops.popping.pop_side_by_side.Given.{Over}
use Rattle.zq_bench.proofs.pops.popping.pop_side_by_side.Goals as goal
use Rattle.zq_bench.proofs.pops.popping.pop_side_by_side.Lts.{arg-0-2}
use Rattle.zq_bench.specs.contracts.pops.popping.Pop as Pop
use Rattle.zq_bench.specs.contracts.pops.popping.pop_side_by_side.{R-row}
use Rattle.std.proofs.Crossing.{crosses}
use Rattle.zq_spread.proofs.Crossing.{pass_send, site_sync}
use Rattle.zq_words.specs.contracts.command.Command as Command
use Rattle.zq_words.specs.contracts.kind.Kind as Kind

-- what commands ask for may be seen by several threads
kind_sync : (κ : NamedLft) → IsSync (Kind.the_field κ).row
kind_sync κ = search (sendable, crosses) depth 60 fits 50000

command_sync : (κ : NamedLft) → IsSync (Command.the_row κ)
command_sync κ = search (kind_sync, sendable, crosses) depth 30

-- what was popped may be seen by several
pop_send : IsSend Pop.the_row
pop_send = search (sendable, crosses) depth 30

-- what each thread does may be seen by several
crosses_over : (g : Over) (κs : Lfts 13) → IsSync (R-row g.row.R) → IsSync (param 2 (arg-0-2 g.row.R g.R.laws g.R.Threads-dict g.R.Wait-dict κs))
crosses_over g κs rt = search (site_sync, command_sync, pop_send, sendable, crosses) depth 30 fits 50000

pub for_each_mut-requires-send-T : goal.for_each_mut-requires-send-T
for_each_mut-requires-send-T g c κs within = search (pass_send, sendable, crosses) depth 30

pub for_each_mut-requires-sync-F : goal.for_each_mut-requires-sync-F
for_each_mut-requires-sync-F g c κs within = crosses_over g κs c.type_bounds.sync-R
