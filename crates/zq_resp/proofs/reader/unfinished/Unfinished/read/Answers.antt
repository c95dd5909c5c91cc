use Rattle.std.proofs.Common.{take, arith}
use Rattle.std.proofs.lemmas.List.{take_all, length-take}
use Rattle.std.proofs.lemmas.Result.{err_from_is_err_and}
use Rattle.zq_resp.specs.Suspended.{views}
use Rattle.zq_resp.specs.Partial.{text_so_far}
use Rattle.zq_resp.proofs.Memory.{count_near}
use Rattle.zq_resp.proofs.Limits.{near_fails, near_found, near_past, stands_on}
use Rattle.zq_resp.proofs.reader.unfinished.Unfinished.read.Goals as goal

pub returns-in_err-progress-clause-step : goal.returns-in_err-progress-clause-step
returns-in_err-progress-clause-step c =
    let exit = err_from_is_err_and c.from_residual.result c.from_residual.ensures.1 in
    rw (exit.1, exit.2)
    (near_fails c.args.self c.args.bytes.now c.min-near.result c.in_err-progress.field-0.0 c.requires.stands (omega arith) c.in_err-progress.ensures.step)

pub returns-in_err-progress-clause-memory : goal.returns-in_err-progress-clause-memory
returns-in_err-progress-clause-memory c =
    let exit = err_from_is_err_and c.from_residual.result c.from_residual.ensures.1 in
    rw (exit.1, exit.2) (λ is. count_near (text_so_far c.args.self.partial) c.args.bytes.now c.min-near.result (c.in_err-progress.ensures.memory is))

pub returns-in-Whole-clause-step : goal.returns-in-Whole-clause-step
returns-in-Whole-clause-step c =
    let bytes = c.args.bytes.now in
    let near = c.min-near.result in
    let step = rw c.in-Whole.is at c.in_ok-progress.ensures.step in
    (step.0, near_found c.args.self bytes near c.in_ok-progress.taken (views c.in-Whole.words) c.requires.stands (omega arith) (omega (arith, length-take near bytes, c.in_ok-progress.ensures.taken)) step.1)

pub returns-then-near-bytes-clause-step : goal.returns-then-near-bytes-clause-step
returns-then-near-bytes-clause-step c =
    let bytes = c.args.bytes.now in
    let near = c.min-near.result in
    let all = rw c.in-More.is at c.in_ok-progress.ensures.all in
    let step = rw c.in-More.is at c.in_ok-progress.ensures.step in
    let goes = rw (take_all c.in_ok-progress.taken (take near bytes) (omega (arith, all))) at step.1 in
    near_past c.args.self bytes near c.in-More.partial c.requires.stands (omega arith) (omega arith) goes

pub returns-else-near-bytes-clause-step : goal.returns-else-near-bytes-clause-step
returns-else-near-bytes-clause-step c =
    let bytes = c.args.bytes.now in
    let near = c.min-near.result in
    let all = rw c.in-More.is at c.in_ok-progress.ensures.all in
    let step = rw c.in-More.is at c.in_ok-progress.ensures.step in
    let goes = rw (take_all c.in_ok-progress.taken (take near bytes) (omega (arith, all)), take_all near bytes (omega arith)) at step.1 in
    (stands_on c.args.self _ bytes c.requires.stands step.0 (omega arith) (omega arith) goes, omega arith, goes.text_grows)
