use Rattle.std.proofs.Common.{inl, sym}
use Rattle.zq_replica.proofs.Gathers.{gathered_by, standing_by}
use Rattle.zq_replica.proofs.replica.Replica.hear_frame.Goals as goal

pub returns-in-Ops-clause-gathers : goal.returns-in-Ops-clause-gathers
returns-in-Ops-clause-gathers g c =
    c.hear_ops.ensures.gathers c.args.frame.now (rw c.in-Ops.is (sym c.deref_mut.ensures.value))

pub returns-in-Have-clause-gathers : goal.returns-in-Have-clause-gathers
returns-in-Have-clause-gathers g c =
    inl (gathered_by c.args.self.now c.hear_and_answer.new.self c.hear_and_answer.ensures.steady)

pub returns-in-Have-clause-standing : goal.returns-in-Have-clause-standing
returns-in-Have-clause-standing g c =
    standing_by c.args.self.now c.hear_and_answer.new.self c.hear_and_answer.ensures.steady

pub returns-in-State-clause-gathers : goal.returns-in-State-clause-gathers
returns-in-State-clause-gathers g c =
    inl (gathered_by c.args.self.now c.hear_state.new.self c.hear_state.ensures.steady)

pub returns-in-State-clause-standing : goal.returns-in-State-clause-standing
returns-in-State-clause-standing g c =
    standing_by c.args.self.now c.hear_state.new.self c.hear_state.ensures.steady
