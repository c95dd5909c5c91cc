use Rattle.std.proofs.Common.{option_map}
use Rattle.zq_merge.proofs.BuiltStates.{AreMembersTo}
use Rattle.zq_merge.specs.Built.{keys_of, members_since}
use Rattle.zq_merge.specs.Framed.{frame_of}
use Rattle.zq_merge.proofs.key.read_members.Given as goal

abbrev pub invariant-loop-number : goal.invariant-loop-number
invariant-loop-number l = AreMembersTo l.version l.whole (frame_of l.frame) (keys_of l.initial.shard) l.key l.count l._number l.initial.bytes.now l.bytes.now (option_map (λ b. b.now) l.before) (members_since l.initial.shard l.shard) l.shard
