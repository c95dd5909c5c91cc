use Rattle.std.proofs.Common.{take}
use Rattle.zq_loop.proofs.AtSocket.{heard-nothing, served-ended, served-heard}
use Rattle.zq_session.specs.Steps.{heard, said}
use Rattle.zq_loop.proofs.client.Client.read.Goals as goal

pub returns-in-Some-eq0-clause-served : goal.returns-in-Some-eq0-clause-served
returns-in-Some-eq0-clause-served g c = λ first begun p.
    served-ended g.S.Socket.does g.A.Answers.others g.A.Answers.answers first _ _ begun _ _ _ p (heard-nothing g.S.Socket.does g.A.Answers.others g.A.Answers.answers _ _ c.receive.new.buffer c.in-Some-eq0.field-0 c.in-Some-eq0.field-0-test c.in-Some-eq0.ensures.1) c.close.ensures

pub returns-in-Some-clause-served : goal.returns-in-Some-clause-served
returns-in-Some-clause-served g c = λ first begun p.
    served-heard g.S.Socket.does g.A.Answers.others g.A.Answers.answers first c.args.self.now.socket c.receive.new.self begun c.args.answerer.now c.hear-heard.new.answerer p.steps (take c.in-Some.count c.receive.new.buffer) c.hear-heard.new.self
    p.talks c.in-Some.ensures.1 (c.hear-heard.ensures.along begun (heard p.steps) (said p.steps) p.along)

pub returns-in-Some-clause-requests : goal.returns-in-Some-clause-requests
returns-in-Some-clause-requests g c = λ first begun p. c.hear-heard.ensures.requests begun (heard p.steps) (said p.steps) p.along
