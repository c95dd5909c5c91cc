use Rattle.std.proofs.Common.{ap, arith, length, sum_by, ℕ, ◌*◌, ◌+◌, ◌∙◌, ◌≡◌}
use Rattle.zq_backlog.proofs.Kept.{count_is, count_small, weight_is}
use Rattle.zq_backlog.specs.BacklogView.{ops_of}
use Rattle.zq_backlog.specs.Log.{Log}
use Rattle.zq_backlog.specs.Written.{weights}
use Rattle.zq_backlog.proofs.backlog.Backlog.bytes.Goals as goal

pub overflow_mul-result : goal.overflow_mul-result
overflow_mul-result c = omega (arith, count_small c.self.inside c.self.invariant, count_is c.self.inside c.self.invariant, c.len.ensures, c.self.inside.dots.ok.0)

pub overflow_add-result : goal.overflow_add-result
overflow_add-result c = omega (arith, count_small c.self.inside c.self.invariant, count_is c.self.inside c.self.invariant, c.len.ensures, c.self.inside.dots.ok.0, c.bytes.ensures.most)

pub returns : goal.returns
returns c =
    let count : c.len.result ≡ length (ops_of c.self.inside) = c.len.ensures ∙ c.self.inside.dots.ok.0 ∙ count_is c.self.inside c.self.invariant in
    ap (λ n. n + 24 * c.len.result) c.bytes.ensures.sum
    ∙ ap (λ n. sum_by (length {A = ℕ}) c.self.inside.texts + 24 * n) count
    ∙ weight_is c.self.inside c.self.invariant
    ∙ ap (λ (l : Log). weights l.ops) c.self.view_is
