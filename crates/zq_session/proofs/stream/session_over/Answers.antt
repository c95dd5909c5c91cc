use Rattle.std.proofs.Common.{◌≡◌, Err}
use Rattle.std.proofs.lemmas.Result.{err_from_is_err_and}
use Rattle.zq_session.proofs.Conversations.{conversed-out, conversed-stopped}
use Rattle.zq_session.proofs.stream.session_over.Goals as goal

pub returns-in_err-end : goal.returns-in_err-end
returns-in_err-end g c =
    let first : g.row.R.Denot × g.row.W.Denot = (c.args.reader.now, c.args.writer.now) in
    let last : g.row.R.Denot × g.row.W.Denot = (c.serve_all.new.reader, c.serve_all.new.writer) in
    let failed = err_from_is_err_and c.from_residual.result c.from_residual.ensures.1 in
    let why : c.from_residual.result ≡ Err c.in_err-end.field-0.0 = cc (failed.1, failed.2) in
    rw why (conversed-stopped g.E.Ends.does g.A.Answers.answers first c.args.answerer.now c.in_err-end.field-0.0 last c.serve_all.new.answerer c.in_err-end.ensures)

pub returns : goal.returns
returns g c =
    let first : g.row.R.Denot × g.row.W.Denot = (c.args.reader.now, c.args.writer.now) in
    let last : g.row.R.Denot × g.row.W.Denot = (c.serve_all.new.reader, c.serve_all.new.writer) in
    conversed-out g.E.Ends.does g.A.Answers.answers first c.args.answerer.now last c.serve_all.new.answerer (rw c.in-None.is at c.in_ok-end.ensures)
