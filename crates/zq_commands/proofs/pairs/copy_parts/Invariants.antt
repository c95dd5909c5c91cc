use Rattle.std.proofs.Common.{IsTrue, flat_map, map, ◌≡◌}
use Rattle.std.specs.Prelude.{slice_range}
use Rattle.zq_commands.specs.Arrays.{are_writable}
use Rattle.zq_commands.specs.FirstPairs.{lent_pair}
use Rattle.zq_semantics.specs.Replies as plan
use Rattle.zq_resp.specs.Reply.{bulk, reply_bytes}
use Rattle.zq_commands.proofs.pairs.copy_parts.Given as goal

abbrev pub invariant-loop-place : goal.invariant-loop-place
invariant-loop-place l = record {
  parts : map reply_bytes l.parts.items ≡ map bulk (flat_map (plan.parts_of_pair l.with_scores) (slice_range (map lent_pair l.pairs) l.from l.place));
  writable : IsTrue (are_writable l.parts.items);
}
