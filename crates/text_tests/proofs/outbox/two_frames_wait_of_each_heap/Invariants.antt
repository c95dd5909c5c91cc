use Rattle.std.proofs.Common.{◌≡◌}
use Rattle.text_tests.proofs.outbox.two_frames_wait_of_each_heap.Given as goal

abbrev pub invariant-loop-byte : goal.invariant-loop-byte
invariant-loop-byte g l = l.outbox.heaps ≡ 16
