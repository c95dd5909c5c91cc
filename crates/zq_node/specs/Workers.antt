-- What workers do with the jobs that they are given.

use Rattle.std.specs.Prelude.{IsTrue, List, Vec, [], ◌∷◌, ◌≡◌}
use Rattle.std.specs.declared.alloc.Global.{Global}
use Rattle.zq_node.specs.declared.job.Job.{Job}
use Rattle.zq_resp.specs.Reply.{is_writable, reply_bytes}
use Rattle.zq_resp.specs.declared.reply.Reply.{Reply}
use Rattle.zq_spread.specs.Dispatch.{IsCalled}
use Rattle.zq_spread.specs.declared.pass.Pass.{Pass}
use Rattle.zq_spread.specs.declared.site.Site.{Site}

-- the site was called once for each of the jobs, one after the other on the pass, and these are its
-- replies
abbrev pub AreWorked : Site → List Job → List Reply → Pass → Pass → Type 0
AreWorked site [] [] before after = after ≡ before
AreWorked site (job ∷ jobs) (reply ∷ replies) before after =
    (next : Pass) × IsCalled site job.command job.w1 job.w2 (reply_bytes reply) before next
    × IsTrue (is_writable reply) × AreWorked site jobs replies next after
AreWorked site jobs replies before after = ⊥

-- what was done with each list of jobs on the pass at its place: the replies, and the pass that is
-- given back, stand at that place
abbrev pub AreAllWorked : Site → List (Vec Job Global) → List Pass →
    List (Vec Reply Global × Pass) → Type 0
AreAllWorked site [] [] [] = Unit {0}
AreAllWorked site (jobs ∷ lists) (pass ∷ passes) (done ∷ all) =
    AreWorked site jobs.items done.0.items pass done.1 × AreAllWorked site lists passes all
AreAllWorked site lists passes all = ⊥
