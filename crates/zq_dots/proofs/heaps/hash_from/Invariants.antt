use Rattle.std.proofs.Common.{◌≡◌, fold, take}
use Rattle.zq_model.specs.Heaps.{fnv1a64_step}
use Rattle.zq_dots.proofs.heaps.hash_from.Given as goal

abbrev pub invariant-loop-byte : goal.invariant-loop-byte
invariant-loop-byte l = l.hash ≡ fold fnv1a64_step l.start (take l.byte-index l.bytes)
