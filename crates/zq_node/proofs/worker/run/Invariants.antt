use Rattle.std.proofs.Common.{drop, length, ◌≡◌, ◌≤◌}
use Rattle.std.specs.Prelude.{vec_capacity, vec_len}
use Rattle.zq_node.proofs.Workers.{IsToBeWorked}
use Rattle.zq_node.proofs.worker.run.Given as goal
use Rattle.zq_spread.specs.Passes.{IsPassOf}

abbrev pub invariant-loop-job : goal.invariant-loop-job
invariant-loop-job g l =
    IsPassOf l.site l.pass × (vec_len l.replies ≡ l.job-index) × (length l.job-items ≤ vec_capacity l.replies)
    × IsToBeWorked l.site l.job-items (drop l.job-index l.job-items) l.replies.items l.fn.pass l.pass
