use Rattle.std.proofs.Common.{◌≤◌, ◌-◌, length, take}
use Rattle.zq_resp.specs.Suspended.{Goes}
use Rattle.zq_resp.specs.Partial.{IsPartial, resume, text_so_far}
use Rattle.zq_resp.proofs.reader.partial.Partial.read.Given as goal

abbrev pub invariant-loop-at : goal.invariant-loop-at
invariant-loop-at l =
    record {
      within : l.at ≤ length l.bytes;
      is : IsPartial l.partial;
      goes : Goes text_so_far resume l.fn.self l.partial (take l.at l.bytes);
    }

abbrev pub decreases-loop-at : goal.decreases-loop-at
decreases-loop-at l = length l.bytes - l.at
