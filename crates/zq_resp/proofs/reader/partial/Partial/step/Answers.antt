use Rattle.std.proofs.Common.{[]}
use Rattle.std.proofs.lemmas.Result.{err_from_is_err_and}
use Rattle.zq_resp.proofs.Memory.{wrong_known}
use Rattle.zq_resp.proofs.reader.partial.Partial.step.Goals as goal

pub returns-in_err-count-in-Count-clause-memory : goal.returns-in_err-count-in-Count-clause-memory
returns-in_err-count-in-Count-clause-memory c =
    let exit = err_from_is_err_and c.from_residual.result c.from_residual.ensures.1 in
    rw (exit.1, exit.2) (λ is. absurd (wrong_known c.in_err-count-in-Count.field-0.0 _ (c.in_err-count-in-Count.ensures []) is))

pub returns-in_err-nothing-in-Null-clause-memory : goal.returns-in_err-nothing-in-Null-clause-memory
returns-in_err-nothing-in-Null-clause-memory c =
    let exit = err_from_is_err_and c.from_residual-in_err-nothing-in-Null.result c.from_residual-in_err-nothing-in-Null.ensures.1 in
    rw (exit.1, exit.2) (λ is. absurd (wrong_known c.in_err-nothing-in-Null.field-0.0 _ (c.in_err-nothing-in-Null.ensures []) is))
