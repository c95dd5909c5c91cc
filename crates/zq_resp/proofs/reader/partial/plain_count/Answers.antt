use Rattle.std.proofs.lemmas.Result.{err_from_is_err_and}
use Rattle.zq_resp.proofs.Counts.{count_begins, count_goes, count_wrong}
use Rattle.zq_resp.proofs.reader.partial.plain_count.Goals as goal

pub returns-in_err-line : goal.returns-in_err-line
returns-in_err-line c =
    let exit = err_from_is_err_and c.from_residual.result c.from_residual.ensures.1 in
    rw (exit.1, exit.2) (count_wrong c.in_err-line.field-0.0 c.args.line c.args.byte c.requires.plain c.in_err-line.ensures)

pub returns-in-More : goal.returns-in-More
returns-in-More c =
    let step = rw c.in-More.is at c.in_ok-line.ensures in
    (step.0, count_goes c.args.line c.in-More.line c.args.byte c.requires.plain step.1)

pub returns-in-Whole : goal.returns-in-Whole
returns-in-Whole c =
    let step = rw c.in-Whole.is at c.in_ok-line.ensures in
    rw c.with_words.ensures (count_begins c.args.line c.args.byte c.in-Whole.count c.new.result c.requires.plain step.1 c.new.ensures)
