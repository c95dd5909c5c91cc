use Rattle.std.proofs.Common.{length, take, ◌≡◌}
use Rattle.zq_wire.proofs.hmac.masked_by.Given as goal
use Rattle.zq_wire.specs.Hmac.{masked}

abbrev pub invariant-loop-index : goal.invariant-loop-index
invariant-loop-index l = record {
  done : take l.index l.out ≡ masked l.mask (take l.index l.block);
  len : length l.out ≡ 64;
  block_len : length l.block ≡ 64;
}
