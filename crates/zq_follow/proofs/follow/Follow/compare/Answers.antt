use Rattle.std.proofs.Common.{Option, ap, le-leb, sym, ◌∙◌}
use Rattle.std.proofs.lemmas.Bool.{cond-false, cond-true, lt-leb}
use Rattle.zq_follow.specs.Follow.{compared}
use Rattle.zq_follow.specs.declared.at.Probe.{Probe}
use Rattle.zq_follow.proofs.follow.Follow.compare.Goals as goal
use Rattle.zq_follow.proofs.follow.Follow.compare.Goals.{in_default-via-in-Some+else-probe-at, in_default-via-in_default}

pub returns-in-Some : goal.returns-in-Some
returns-in-Some c =
    c.answer.ensures
    ∙ sym (ap (λ (p : Option Probe). compared p c.args.sent c.args.at.now c.args.first c.args.self.now) c.in-Some.is ∙ cond-true _ _ _ (le-leb _ _ c.if-probe-at.true))

pub returns-in_default : goal.returns-in_default
returns-in_default c =
    elim c.in_default.branch [
      | in_default-via-in-Some+else-probe-at w ↦ c.join.ensures ∙ sym (ap (λ (p : Option Probe). compared p c.args.sent c.args.at.now c.args.first c.args.self.now) w.in-Some.is ∙ cond-false _ _ _ (lt-leb _ _ w.if-probe-at.false))
      | in_default-via-in_default w ↦ c.join.ensures ∙ sym (ap (λ (p : Option Probe). compared p c.args.sent c.args.at.now c.args.first c.args.self.now) w.in_default.is)
    ]
