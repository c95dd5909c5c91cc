use Rattle.std.proofs.Common.{ap, arith, inl, inr, sym, ◌∙◌}
use Rattle.zq_backlog.proofs.Trims.{trimmed_light}
use Rattle.zq_backlog.specs.Log.{Log}
use Rattle.zq_backlog.proofs.backlog.Backlog.trim.Goals as goal

pub returns-else-bytes-self : goal.returns-else-bytes-self
returns-else-bytes-self c = sym (trimmed_light c.loop-self.self (inr (omega (arith, c.bytes.ensures, c.if-bytes-self.false, ap (λ (l : Log). l.most) c.self.view_is)))) ∙ c.loop-self.invariant

pub returns-after-loop-self : goal.returns-after-loop-self
returns-after-loop-self c = sym (trimmed_light c.loop-self.self (inl (omega (arith, c.len.ensures, c.loop-self-test.false)))) ∙ c.loop-self.invariant
