use Rattle.std.proofs.Common.{ap, ◌++◌, ◌∙◌}
use Rattle.std.specs.Prelude.{option_map, option_to_list}
use Rattle.zq_links.specs.Frame.{frame_of}
use Rattle.zq_node.proofs.Called.{no_step_on, shown_no_step}
use Rattle.zq_node.proofs.node.Node.answer.Goals as goal
use Rattle.zq_node.specs.Hearing.{own_have, sent_to}

pub returns-in_err-vector-clause-no_step : goal.returns-in_err-vector-clause-no_step
returns-in_err-vector-clause-no_step g c = c.in_err-vector.ensures.refused.0.steps

pub returns-in_err-told-clause-no_step : goal.returns-in_err-told-clause-no_step
returns-in_err-told-clause-no_step g c =
    let looked = shown_no_step c.in_ok-vector.vector c.args.self.now.pass c.vector.new.pass c.args.have.now.heap c.in_ok-vector.ensures.called in
    no_step_on c.args.self.now.pass c.vector.new.pass c.tell_if.new.self.pass looked c.tell_if.ensures.no_step

pub returns-in_err-addressed-clause-no_step : goal.returns-in_err-addressed-clause-no_step
returns-in_err-addressed-clause-no_step g c =
    let looked = shown_no_step c.in_ok-vector.vector c.args.self.now.pass c.vector.new.pass c.args.have.now.heap c.in_ok-vector.ensures.called in
    no_step_on c.args.self.now.pass c.vector.new.pass c.tell_if.new.self.pass looked c.tell_if.ensures.no_step

pub returns-clause-no_step : goal.returns-clause-no_step
returns-clause-no_step g c =
    let looked = shown_no_step c.in_ok-vector.vector c.args.self.now.pass c.vector.new.pass c.args.have.now.heap c.in_ok-vector.ensures.called in
    no_step_on c.args.self.now.pass c.vector.new.pass c.tell_if.new.self.pass looked c.tell_if.ensures.no_step

pub returns-clause-answered : goal.returns-clause-answered
returns-clause-answered g c = record {
  vector = c.in_ok-vector.vector;
  shown = c.vector.new.pass;
  saw = c.in_ok-vector.ensures.called;
  told = option_map frame_of c.in_ok-told.told;
  told_is = c.in_ok-told.ensures.told;
  sent_is = c.in_ok-addressed.ensures.sent ∙ ap (λ l. sent_to c.args.have.now.from (option_to_list (option_map frame_of c.in_ok-told.told) ++ option_to_list l))
      (c.have_if-own.ensures.own ∙ ap (λ h. own_have h.0.site.now c.args.have.now.heap c.args.have.now.vector c.in_ok-vector.vector) c.in_ok-told.ensures.home);
}

pub returns-clause-writable : goal.returns-clause-writable
returns-clause-writable g c = c.in_ok-addressed.ensures.writable c.in_ok-told.ensures.writable c.have_if-own.ensures.writable
