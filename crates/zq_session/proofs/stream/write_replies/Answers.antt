use Rattle.std.proofs.Common.{◌≡◌, Err, subst}
use Rattle.std.proofs.lemmas.Result.{err_from_is_err_and}
use Rattle.zq_session.specs.Gathering.{Puts, held}
use Rattle.zq_session.specs.declared.serving.Served.{Served}
use Rattle.zq_session.specs.declared.outcome.SessionFault.TheVariants as stop
use Rattle.zq_session.proofs.Written.{goes_on, piece-cut-off, piece-unwritten, piece-written}
use Rattle.zq_session.proofs.stream.write_replies.Goals as goal

pub returns-in_err-write_gathered-clause-served : goal.returns-in_err-write_gathered-clause-served
returns-in_err-write_gathered-clause-served g c = λ had is.
    let failed = err_from_is_err_and c.from_residual.result c.from_residual.ensures.1 in
    let why : c.from_residual.result ≡ Err stop.Write = cc (failed.1, failed.2, c.in_err-write_gathered.ensures.0) in
    let cut = c.in_err-write_gathered.ensures.2 in
    let goes = goes_on c.serve_piece-served.result c.has_failed.result c.has_failed.ensures c.if-has_failed.false in
    let served = c.serve_piece-served.ensures had is in
    let first : g.row.R.Denot × g.row.W.Denot = (c.args.reader.now, c.args.writer.now) in
    let mid : g.row.R.Denot × g.row.W.Denot = (c.serve_piece-served.new.reader, c.serve_piece-served.new.writer) in
    let put = subst (λ none. Puts {T = Served} g.E.Ends.does (held first none) (held mid c.serve_piece-served.new.out.items) served.0 c.serve_piece-served.result) c.requires served.2 in
    rw why (piece-unwritten g.E.Ends.does g.A.Answers.answers _ _ had c.args.piece.now served.0 c.serve_piece-served.new.out.items _ first mid _ c.serve_piece-served.result cut.0 goes served.1 put cut.1)

pub returns-clause-served : goal.returns-clause-served
returns-clause-served g c = λ had is.
    let served = c.serve_piece-served.ensures had is in
    let first : g.row.R.Denot × g.row.W.Denot = (c.args.reader.now, c.args.writer.now) in
    let mid : g.row.R.Denot × g.row.W.Denot = (c.serve_piece-served.new.reader, c.serve_piece-served.new.writer) in
    let put = subst (λ none. Puts {T = Served} g.E.Ends.does (held first none) (held mid c.serve_piece-served.new.out.items) served.0 c.serve_piece-served.result) c.requires served.2 in
    let goes = goes_on c.serve_piece-served.result c.has_failed.result c.has_failed.ensures c.if-has_failed.false in
    piece-written g.E.Ends.does g.A.Answers.answers _ _ had c.args.piece.now served.0 c.serve_piece-served.new.out.items _ first mid _ c.serve_piece-served.result goes served.1 put c.in_ok-write_gathered.ensures.1

pub returns-then-has_failed-clause-served : goal.returns-then-has_failed-clause-served
returns-then-has_failed-clause-served g c = λ had is.
    let why : c.serve_piece-served.result ≡ Err stop.Write = c.has_failed.ensures.0 c.if-has_failed.true in
    let served = c.serve_piece-served.ensures had is in
    let first : g.row.R.Denot × g.row.W.Denot = (c.args.reader.now, c.args.writer.now) in
    let mid : g.row.R.Denot × g.row.W.Denot = (c.serve_piece-served.new.reader, c.serve_piece-served.new.writer) in
    let put = subst (λ none. Puts {T = Served} g.E.Ends.does (held first none) (held mid c.serve_piece-served.new.out.items) served.0 c.serve_piece-served.result) c.requires served.2 in
    rw why (piece-cut-off g.E.Ends.does g.A.Answers.answers _ _ had c.args.piece.now served.0 c.serve_piece-served.new.out.items c.serve_piece-served.new.input first mid (rw why at served.1) (rw why at put))
