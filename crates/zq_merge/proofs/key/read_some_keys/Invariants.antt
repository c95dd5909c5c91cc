use Rattle.std.proofs.Common.{option_map}
use Rattle.zq_merge.proofs.BuiltStates.{AreKeysTo}
use Rattle.zq_merge.specs.Built.{keys_of}
use Rattle.zq_merge.specs.Framed.{frame_of}
use Rattle.zq_merge.proofs.key.read_some_keys.Given as goal

abbrev pub invariant-loop-number : goal.invariant-loop-number
invariant-loop-number l = AreKeysTo l.version l.whole (frame_of l.frame) l.count l._number l.initial.bytes.now l.bytes.now (option_map (λ b. b.now) l.before) (keys_of l.shard) l.shard
