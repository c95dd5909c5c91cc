use Rattle.std.proofs.Common.{ap, arith, get_or, length, subst, sym, ◌+◌, ◌∙◌, ◌≤◌}
use Rattle.zq_dots.specs.Placed.{LONGEST}
use Rattle.zq_model.specs.Operation.{IsAct}
use Rattle.zq_model.specs.Sets.{IsCounters, IsHeaps}
use Rattle.zq_keeper.proofs.operations.ranged.Goals as goal

pub returns : goal.returns
returns c =
    let o = c.args.op.now.operation in
    record {
      heaps = subst IsHeaps c.heaps.ensures.same c.heaps.ensures.range;
      heap = omega (arith, c.heap.ensures.same, c.heap.ensures.below);
      site = omega (arith, c.value.ensures.same, c.value.ensures.below, c.dot.ensures.site);
      seen = subst IsCounters c.seen.ensures.same c.seen.ensures.counters;
      next = sym c.dot.ensures.n ∙ c.dot.ensures.next ∙ ap (λ s. get_or o.seen s 0 + 1) c.dot.ensures.site;
      bounded = omega (arith, c.dot.ensures.n, c.dot.ensures.bounded);
      key = subst (λ k. length k ≤ LONGEST) c.key.ensures.same c.key.ensures.short;
      member = subst (λ k. length k ≤ LONGEST) c.member.ensures.same c.member.ensures.short;
      act = subst IsAct c.act.ensures.same c.act.ensures.range;
    }
