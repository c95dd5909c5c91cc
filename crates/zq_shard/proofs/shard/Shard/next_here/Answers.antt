use Rattle.std.proofs.Common.{ap, arith, refl, rules, subst, ◌+◌, ◌<◌, ◌≤◌}
use Rattle.std.specs.Prelude.{slice_index}
use Rattle.zq_model.specs.Sets.{LAST, SITES}
use Rattle.zq_shard.specs.Shard.{HeapImage, IsHeapImage}
use Rattle.zq_shard.proofs.shard.Shard.next_here.Goals as goal

pub returns-clause-sound : goal.returns-clause-sound
returns-clause-sound c = λ key member act short_key short_member within.
    let s : HeapImage = c.args.self.now in
    let kept : IsHeapImage s = subst IsHeapImage c.self.view_is c.self.invariant in
    let below : c.args.site < SITES = search rules in
    record {
      heaps = kept.heaps;
      heap = kept.heap;
      site = below;
      seen = kept.bounded.counters;
      next = refl;
      bounded =
          subst (λ v. slice_index v c.args.site + 1 ≤ LAST) (ap (λ (q : HeapImage). q.image.vector) c.self.view_is)
          (omega (arith, c.in_ok-next.ensures.bounded, c.in_ok-next.ensures.dot.1));
      key = short_key;
      member = short_member;
      act = within;
    }
