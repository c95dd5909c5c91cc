-- What workers are to do.

use Rattle.std.specs.Prelude.{List, Result, Vec, [], map, ◌∷◌, ◌≡◌}
use Rattle.std.specs.declared.alloc.Global.{Global}
use Rattle.std.specs.declared.thread.PromisedHandle.{PromisedHandle}
use Rattle.zq_node.specs.Workers.{AreWorked}
use Rattle.zq_node.specs.declared.duty.Duty.{Duty}
use Rattle.zq_node.specs.declared.job.Job.{Job}
use Rattle.zq_node.specs.declared.work_fault.WorkFault.{WorkFault}
use Rattle.zq_resp.specs.declared.reply.Reply.{Reply}
use Rattle.zq_spread.specs.Passes.{IsPassOf}
use Rattle.zq_spread.specs.declared.pass.Pass.{Pass}
use Rattle.zq_spread.specs.declared.site.Site.{Site}

-- the replies and the pass are those of the calls that it is to make
abbrev pub IsDone : Duty → Vec Reply Global × Pass → Type 0
IsDone duty done = AreWorked duty.site.now duty.jobs.value.items done.0.items duty.pass.value done.1
    × IsPassOf duty.site.now done.1

-- each is to make the calls of the jobs at its place on the pass at its place
abbrev pub AreDuties : Site → List (Vec Job Global) → List Pass → List Duty → Type 0
AreDuties site [] [] [] = Unit {0}
AreDuties site (jobs ∷ lists) (pass ∷ passes) (duty ∷ duties) =
    (duty.site.now ≡ site) × (duty.jobs.value ≡ jobs) × (duty.pass.value ≡ pass)
    × AreDuties site lists passes duties
AreDuties site lists passes duties = ⊥

-- what these threads are to do
abbrev pub duties_of : List (PromisedHandle (Result (Vec Reply Global × Pass) WorkFault) Duty) →
    List Duty
duties_of workers = map (λ worker. worker.promise) workers
