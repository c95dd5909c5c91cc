use Rattle.std.proofs.Common.{ap, arith, length, rules, sum_by, ℕ, ◌+◌, ◌≡◌}
use Rattle.std.specs.Vec.{vec_len}
use Rattle.zq_backlog.proofs.Runs.{sum-cut}
use Rattle.zq_backlog.specs.Run.{cut}
use Rattle.zq_backlog.proofs.run.Run.bytes.Goals as goal

pub returns-clause-sum : goal.returns-clause-sum
returns-clause-sum c =
    let r = c.self.inside in
    let count : vec_len r.bytes ≡ length r.bytes.items = search rules in
    let sum : sum_by (length {A = ℕ}) (cut 0 r.ends.items r.bytes.items) + 0 ≡ length r.bytes.items = sum-cut 0 (length r.bytes.items) r.ends.items r.bytes.items c.self.invariant.ends (omega arith) in
    let same : sum_by (length {A = ℕ}) (cut 0 r.ends.items r.bytes.items) ≡ sum_by (length {A = ℕ}) c.args.self.now = ap (sum_by (length {A = ℕ})) c.self.view_is in
    omega (arith, c.len.ensures, count, sum, same)
