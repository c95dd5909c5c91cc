use Rattle.std.proofs.Common.{arith}
use Rattle.std.proofs.lemmas.List.{length-take, length-drop, take_rest}
use Rattle.std.proofs.lemmas.Result.{err_from_is_err_and}
use Rattle.zq_resp.specs.Suspended.{views}
use Rattle.zq_resp.specs.Partial.{resume, text_so_far}
use Rattle.zq_resp.proofs.Steps.{then_fails, then_finds, then_goes}
use Rattle.zq_resp.proofs.reader.partial.Partial.read.Goals as goal

pub returns-in_err-progress-clause-step : goal.returns-in_err-progress-clause-step
returns-in_err-progress-clause-step c =
    let bytes = c.args.bytes.now in
    let exit = err_from_is_err_and c.from_residual.result c.from_residual.ensures.1 in
    let failed = rw (take_rest bytes c.loop-at.at) at c.in_err-progress.ensures.step in
    rw (exit.1, exit.2)
    (then_fails text_so_far resume c.args.self c.loop-at.partial c.loop-at.at bytes c.loop-at.invariant.goes c.in_err-progress.field-0.0 failed)

pub loop-at-preserved : goal.loop-at-preserved
loop-at-preserved c =
    let bytes = c.args.bytes.now in
    let step = rw (take_rest bytes c.loop-at.at) at (rw c.in-More.is at c.in_ok-progress.ensures.step) in
    record {
      within = let taken = simp (length-take, length-drop) at c.in_ok-progress.ensures.taken.1 in omega arith;
      is = step.0;
      goes = then_goes text_so_far resume c.args.self c.loop-at.partial c.loop-at.at bytes c.loop-at.invariant.goes c.in-More.more c.in_ok-progress.taken step.1;
    }

pub returns-in-Whole-clause-step : goal.returns-in-Whole-clause-step
returns-in-Whole-clause-step c =
    let bytes = c.args.bytes.now in
    let step = rw (take_rest bytes c.loop-at.at) at (rw c.in-Whole.is at c.in_ok-progress.ensures.step) in (
      step.0,
      then_finds text_so_far resume c.args.self c.loop-at.partial c.loop-at.at bytes c.loop-at.invariant.goes c.in_ok-progress.taken (λ more. (views c.in-Whole.words, more)) step.1,
    )
