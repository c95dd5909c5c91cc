use Rattle.std.proofs.Common.{arith, get_or, refl, ◌<◌}
use Rattle.zq_delta.proofs.Again.{unworn}
use Rattle.zq_model.specs.Sets.{LAST}
use Rattle.zq_delta.proofs.parts.read_parts.Goals as goal

pub returns-clause-sound : goal.returns-clause-sound
returns-clause-sound c =
    let head = c.in_ok-head.ensures in
    let next : get_or c.in_ok-seen.seen c.in_ok-head.head.site 0 < LAST = unworn c.in_ok-head.head.site c.in_ok-seen.seen c.in_ok-seen.ensures.within in
    record {
      heaps = head.heaps;
      heap = head.heap;
      site = head.site;
      seen = c.in_ok-seen.ensures.counters;
      next = refl;
      bounded = omega arith;
      key = c.in_ok-key.ensures.short;
      member = c.in_ok-member.ensures.short;
      act = c.in_ok-act.ensures.within;
    }
