use Rattle.std.proofs.Common.{ap, sym, ◌∙◌}
use Rattle.std.proofs.lemmas.Bool.{false≢true}
use Rattle.zq_replica.proofs.Gathers.{not_left, taken_out, whole_in}
use Rattle.zq_replica.specs.Gathered.{is_whole}
use Rattle.zq_replica.proofs.replica.Replica.take_whole.Goals as goal

pub returns-in-Some-clause-whole : goal.returns-in-Some-clause-whole
returns-in-Some-clause-whole c =
    whole_in c.finish.result c.args.self.now.gathering c.in-Some.gathering
    (sym c.in-Some.ensures.value) (sym c.is_whole.ensures ∙ c.if-not-is_whole.false)
    c.finish.ensures.held

pub returns-in-Some-clause-taken : goal.returns-in-Some-clause-taken
returns-in-Some-clause-taken c = taken_out c.finish.result _ c.take.ensures.after

pub returns-in-Some-clause-none : goal.returns-in-Some-clause-none
returns-in-Some-clause-none c =
    not_left c.finish.result _ c.args.self.now.gathering c.in-Some.gathering
    (sym c.in-Some.ensures.value) (sym c.is_whole.ensures ∙ c.if-not-is_whole.false)
    c.finish.ensures.whole

pub returns-in-None-clause-none : goal.returns-in-None-clause-none
returns-in-None-clause-none c =
    absurd (false≢true (ap is_whole c.in-None.ensures.value ∙ (sym c.is_whole.ensures ∙ c.if-not-is_whole.false)))
