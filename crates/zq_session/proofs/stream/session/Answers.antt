use Rattle.zq_session.proofs.Conversations.{read-write-at-end, read-write-served}
use Rattle.zq_session.proofs.stream.session.Goals as goal

pub returns-clause-serves : goal.returns-clause-serves
returns-clause-serves g c =
    let first : g.row.R.Denot × g.row.W.Denot = (c.args.reader.now, c.args.writer.now) in
    let last : g.row.R.Denot × g.row.W.Denot = (c.session_over.new.reader, c.session_over.new.writer) in
    read-write-served g.R.Read.remaining g.W.Write.contents g.A.Answers.answers first last c.args.answerer.now c.session_over.new.answerer c.session_over.result c.session_over.ensures

pub returns-clause-read_off : goal.returns-clause-read_off
returns-clause-read_off g c =
    let first : g.row.R.Denot × g.row.W.Denot = (c.args.reader.now, c.args.writer.now) in
    let last : g.row.R.Denot × g.row.W.Denot = (c.session_over.new.reader, c.session_over.new.writer) in
    read-write-at-end g.R.Read.remaining g.W.Write.contents g.A.Answers.answers first last c.args.answerer.now c.session_over.new.answerer c.session_over.result c.session_over.ensures
