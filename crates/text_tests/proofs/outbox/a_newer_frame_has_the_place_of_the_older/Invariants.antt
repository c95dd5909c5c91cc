use Rattle.std.proofs.Common.{◌≡◌}
use Rattle.text_tests.proofs.outbox.a_newer_frame_has_the_place_of_the_older.Given as goal

abbrev pub invariant-loop-step : goal.invariant-loop-step
invariant-loop-step g l = l.outbox.heaps ≡ 2
