use Rattle.std.proofs.Common.{ap, refl, subst, sym}
use Rattle.zq_links.specs.Frame.{OfOps, OfState}
use Rattle.zq_node.proofs.Called.{no_step_on, since_called, since_no_step, state_called, state_no_step}
use Rattle.zq_node.proofs.node.Node.tell.Goals as goal
use Rattle.zq_node.specs.Hearing.{IsSince}

pub returns-in_err-answer-clause-no_step : goal.returns-in_err-answer-clause-no_step
returns-in_err-answer-clause-no_step g c = since_no_step c.since.result c.args.self.now.pass c.since.new.pass c.args.heap c.since.ensures.called

pub returns-in-Ops-clause-no_step : goal.returns-in-Ops-clause-no_step
returns-in-Ops-clause-no_step g c = since_no_step c.since.result c.args.self.now.pass c.since.new.pass c.args.heap c.since.ensures.called

pub returns-in_err-shard-in-TooOld-clause-no_step : goal.returns-in_err-shard-in-TooOld-clause-no_step
returns-in_err-shard-in-TooOld-clause-no_step g c =
    no_step_on c.args.self.now.pass c.since.new.pass c.state.new.pass (since_no_step c.since.result c.args.self.now.pass c.since.new.pass c.args.heap c.since.ensures.called)
    (state_no_step c.state.result c.since.new.pass c.state.new.pass c.args.heap c.state.ensures.called)

pub returns-in_ok-shard-in-TooOld-clause-no_step : goal.returns-in_ok-shard-in-TooOld-clause-no_step
returns-in_ok-shard-in-TooOld-clause-no_step g c =
    no_step_on c.args.self.now.pass c.since.new.pass c.state.new.pass (since_no_step c.since.result c.args.self.now.pass c.since.new.pass c.args.heap c.since.ensures.called)
    (state_no_step c.state.result c.since.new.pass c.state.new.pass c.args.heap c.state.ensures.called)

pub returns-in-Ops-clause-told : goal.returns-in-Ops-clause-told
returns-in-Ops-clause-told g c =
    let site = c.args.self.now.home.site.now in
    record {
      answer = c.in_ok-answer.answer;
      asked = c.since.new.pass;
      called = since_called site c.args.self.now.pass c.since.new.pass c.args.heap c.args.theirs.now c.since.result c.in_ok-answer.answer c.in_ok-answer.was c.since.ensures.called c.in_ok-answer.ensures.answered;
      told = subst (λ s. IsSince site c.since.new.pass c.since.new.pass c.args.heap s (OfOps c.truncate.new.self.items)) (sym c.in-Ops.is) (refl, ap (λ l. OfOps l) c.truncate.ensures.items);
    }

pub returns-in_ok-shard-in-TooOld-clause-told : goal.returns-in_ok-shard-in-TooOld-clause-told
returns-in_ok-shard-in-TooOld-clause-told g c =
    let site = c.args.self.now.home.site.now in
    record {
      answer = c.in_ok-answer.answer;
      asked = c.since.new.pass;
      called = since_called site c.args.self.now.pass c.since.new.pass c.args.heap c.args.theirs.now c.since.result c.in_ok-answer.answer c.in_ok-answer.was c.since.ensures.called c.in_ok-answer.ensures.answered;
      told = subst (λ s. IsSince site c.since.new.pass c.state.new.pass c.args.heap s (OfState c.in_ok-shard-in-TooOld.shard)) (sym c.in-TooOld.is)
          (c.in_ok-shard-in-TooOld.shard, state_called site c.since.new.pass c.state.new.pass c.args.heap c.state.result c.in_ok-shard-in-TooOld.shard c.in_ok-shard-in-TooOld.was c.state.ensures.called, refl);
    }
