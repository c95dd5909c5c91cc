-- How the calls of workers go on, and what they come to.

use Rattle.std.proofs.Common.{ap, append-nil, append_assoc, refl, subst, sym, ◌∙◌}
use Rattle.std.proofs.lemmas.List.{map-append}
use Rattle.std.proofs.lemmas.List.Elements.{All-cons, All-nil}
use Rattle.std.specs.List.{AllZip}
use Rattle.std.specs.Prelude.{All, Err, IfOk, IsTrue, List, Ok, Result, Vec, [], ◌++◌, ◌∷◌, ◌≡◌}
use Rattle.std.specs.declared.alloc.Global.{Global}
use Rattle.std.specs.declared.thread.PromisedHandle.{PromisedHandle}
use Rattle.zq_node.specs.Duties.{AreDuties, IsDone, duties_of}
use Rattle.zq_node.specs.Workers.{AreAllWorked, AreWorked}
use Rattle.zq_node.specs.declared.duty.Duty.{Duty}
use Rattle.zq_node.specs.declared.job.Job.{Job}
use Rattle.zq_node.specs.declared.work_fault.WorkFault.{WorkFault}
use Rattle.zq_resp.specs.Reply.{is_writable, reply_bytes}
use Rattle.zq_resp.specs.declared.reply.Reply.{Reply}
use Rattle.zq_spread.specs.Dispatch.{IsCalled}
use Rattle.zq_spread.specs.Passes.{IsPassOf}
use Rattle.zq_spread.specs.declared.pass.Pass.{Pass}
use Rattle.zq_spread.specs.declared.site.Site.{Site}

-- ---- one worker

-- what is still to be called makes, behind these replies, the whole
abbrev pub IsToBeWorked : Site → List Job → List Job → List Reply → Pass → Pass → Type 0
IsToBeWorked site all left replies start now = (more : List Reply) (last : Pass) → AreWorked site left more now last → AreWorked site all (replies ++ more) start last

-- one call on
pub one_worked : (site : Site) (all left : List Job) (job : Job) (replies longer : List Reply) (reply : Reply) (start now next : Pass) →
    IsToBeWorked site all (job ∷ left) replies start now → IsCalled site job.command job.w1 job.w2 (reply_bytes reply) now next → IsTrue (is_writable reply) → longer ≡ replies ++ reply ∷ [] →
    IsToBeWorked site all left longer start next
one_worked site all left job replies longer reply start now next is called writable grown = λ more last rest.
    let whole : AreWorked site all (replies ++ reply ∷ more) start last = is (reply ∷ more) last (next, called, writable, rest) in
    let same : longer ++ more ≡ replies ++ reply ∷ more = ap (λ rs. rs ++ more) grown ∙ append_assoc replies (reply ∷ []) more in
    subst (λ rs. AreWorked site all rs start last) (sym same) whole

-- none is left
pub all_worked : (site : Site) (all : List Job) (replies : List Reply) (start now : Pass) → IsToBeWorked site all [] replies start now → AreWorked site all replies start now
all_worked site all replies start now is = subst (λ rs. AreWorked site all rs start now) (append-nil replies) (is [] now refl)

-- ---- all workers

-- the workers that are still to be started make, behind these, the whole
abbrev pub IsToBeStarted : Site → List (Vec Job Global) → List (Vec Job Global) → List Pass → List Pass → List Duty → Type 0
IsToBeStarted site all lists every passes duties = (more : List Duty) → AreDuties site lists passes more → AreDuties site all every (duties ++ more)

-- one that was started
pub one_started : (site : Site) (all lists : List (Vec Job Global)) (every passes : List Pass) (jobs : Vec Job Global) (pass : Pass)
    (workers longer : List (PromisedHandle (Result (Vec Reply Global × Pass) WorkFault) Duty)) (worker : PromisedHandle (Result (Vec Reply Global × Pass) WorkFault) Duty) →
    IsToBeStarted site all (jobs ∷ lists) every (pass ∷ passes) (duties_of workers) → worker.promise.site.now ≡ site → worker.promise.jobs.value ≡ jobs → worker.promise.pass.value ≡ pass →
    longer ≡ workers ++ worker ∷ [] → IsToBeStarted site all lists every passes (duties_of longer)
one_started site all lists every passes jobs pass workers longer worker is here list given grown = λ more rest.
    let whole : AreDuties site all every (duties_of workers ++ worker.promise ∷ more) = is (worker.promise ∷ more) (here, list, given, rest) in
    let split : duties_of longer ≡ duties_of workers ++ worker.promise ∷ [] = ap duties_of grown ∙ map-append (λ w. w.promise) workers (worker ∷ []) in
    let same : duties_of longer ++ more ≡ duties_of workers ++ worker.promise ∷ more = ap (λ ds. ds ++ more) split ∙ append_assoc (duties_of workers) (worker.promise ∷ []) more in
    subst (AreDuties site all every) (sym same) whole

-- all are started
pub all_started : (site : Site) (all : List (Vec Job Global)) (every : List Pass) (duties : List Duty) → IsToBeStarted site all [] every [] duties → AreDuties site all every duties
all_started site all every duties is = subst (AreDuties site all every) (append-nil duties) (is [] tt)

-- what the workers that are still to be joined give makes, behind this, the whole
abbrev pub IsToBeDone : List Duty → List Duty → List (Vec Reply Global × Pass) → Type 0
IsToBeDone all left done = (more : List (Vec Reply Global × Pass)) → AllZip IsDone left more → AllZip IsDone all (done ++ more)

-- all are joined
pub all_done : (all : List Duty) (done : List (Vec Reply Global × Pass)) → IsToBeDone all [] done → AllZip IsDone all done
all_done all done is = subst (AllZip IsDone all) (append-nil done) (is [] tt)

-- what they were to do was done
pub done_is_worked : (site : Site) (lists : List (Vec Job Global)) (passes : List Pass) (duties : List Duty) (done : List (Vec Reply Global × Pass)) →
    AreDuties site lists passes duties → AllZip IsDone duties done → AreAllWorked site lists passes done
done_is_worked site [] [] [] [] are each = tt
done_is_worked site [] [] [] (done ∷ all) are each = absurd each
done_is_worked site [] [] (duty ∷ duties) done are each = absurd are
done_is_worked site [] (pass ∷ passes) duties done are each = absurd are
done_is_worked site (jobs ∷ lists) [] duties done are each = absurd are
done_is_worked site (jobs ∷ lists) (pass ∷ passes) [] done are each = absurd are
done_is_worked site (jobs ∷ lists) (pass ∷ passes) (duty ∷ duties) [] are each = absurd each
done_is_worked site (jobs ∷ lists) (pass ∷ passes) (duty ∷ duties) (done ∷ all) are each =
    let here : AreWorked site duty.jobs.value.items done.0.items duty.pass.value done.1 = subst (λ s. AreWorked s duty.jobs.value.items done.0.items duty.pass.value done.1) are.0 each.0.0 in
    let list : AreWorked site jobs.items done.0.items duty.pass.value done.1 = subst (λ js. AreWorked site js.items done.0.items duty.pass.value done.1) are.1 here in
    (subst (λ p. AreWorked site jobs.items done.0.items p done.1) are.2 list, done_is_worked site lists passes duties all are.3 each.1)

-- and the passes are the site's
pub done_passes : (site : Site) (lists : List (Vec Job Global)) (passes : List Pass) (duties : List Duty) (done : List (Vec Reply Global × Pass)) →
    AreDuties site lists passes duties → AllZip IsDone duties done → All (λ d. IsPassOf site d.1) done
done_passes site [] [] [] [] are each = All-nil (λ d. IsPassOf site d.1)
done_passes site [] [] [] (done ∷ all) are each = absurd each
done_passes site [] [] (duty ∷ duties) done are each = absurd are
done_passes site [] (pass ∷ passes) duties done are each = absurd are
done_passes site (jobs ∷ lists) [] duties done are each = absurd are
done_passes site (jobs ∷ lists) (pass ∷ passes) [] done are each = absurd are
done_passes site (jobs ∷ lists) (pass ∷ passes) (duty ∷ duties) [] are each = absurd each
done_passes site (jobs ∷ lists) (pass ∷ passes) (duty ∷ duties) (done ∷ all) are each =
    All-cons (λ d. IsPassOf site d.1) done all (subst (λ s. IsPassOf s done.1) are.0 each.0.1) (done_passes site lists passes duties all are.3 each.1)

-- what follows where there is an answer
pub if_ok : {A E : Type 0} (P Q : A → Type 0) (r : Result A E) → ((a : A) → P a → Q a) → IfOk r P → IfOk r Q
if_ok P Q (Ok a) then_so is = then_so a is
if_ok P Q (Err e) then_so is = tt
