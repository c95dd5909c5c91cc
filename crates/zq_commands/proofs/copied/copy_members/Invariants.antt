use Rattle.std.proofs.Common.{map, ◌≡◌}
use Rattle.std.specs.Prelude.{slice_range}
use Rattle.zq_commands.specs.FirstPairs.{lent_pair}
use Rattle.zq_semantics.specs.Procedures.{members_of}
use Rattle.zq_words.specs.Words.{views}
use Rattle.zq_commands.proofs.copied.copy_members.Given as goal

abbrev pub invariant-loop-place : goal.invariant-loop-place
invariant-loop-place l = record {
  members : views l.members.items ≡ members_of (slice_range (map lent_pair l.pairs) l.from l.place);
}
