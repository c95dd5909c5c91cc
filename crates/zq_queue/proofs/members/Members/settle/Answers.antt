use Rattle.std.proofs.Common.{ap, arith, subst, sym, ◌∙◌, ◌≡◌}
use Rattle.std.specs.FinMap.{len}
use Rattle.zq_dots.specs.Rule.{rule_of}
use Rattle.zq_queue.proofs.Eithers.{many_scored}
use Rattle.zq_queue.proofs.Helds.{none_bare}
use Rattle.zq_queue.specs.Entries.{NoneIsBare}
use Rattle.zq_queue.proofs.members.Members.settle.Goals as goal

pub invariant_of-self-in-Ok-2 : goal.invariant_of-self-in-Ok-2
invariant_of-self-in-Ok-2 c =
    let x = c.deref-then-len-le-FEW_AGAIN.result.now in
    let rule = rule_of c.self.inside.rule in
    let same : len x.held ≡ len c.deref.result.now.held = ap (λ y. len y.held) (c.deref-then-len-le-FEW_AGAIN.ensures ∙ sym c.deref.ensures) in
    record {
      apart = c.in-Ok.ensures.apart;
      stand = subst NoneIsBare (sym c.in-Ok.ensures.entries) (none_bare rule x.held (many_scored rule c.self.inside.form c.in-Many.many x c.in-Many.is c.deref-then-len-le-FEW_AGAIN.ensures c.self.invariant));
      few = omega (arith, c.in-Ok.ensures.len, c.if-len-le-FEW_AGAIN.true, c.len.ensures.number, same);
    }
