use Rattle.std.proofs.Common.{refl}
use Rattle.zq_model.specs.Heaps.{fnv1a64, heap_of}
use Rattle.zq_model.specs.Sets.{LAST, SITES}
use Rattle.zq_model.proofs.ExampleTests.{MeetAt-from_test, StandsAt-from_test}
use Rattle.zq_model.proofs.examples.operations_come_in_turn.Goals as goal

pub returns : goal.returns
unfolding SITES LAST heap_of fnv1a64
returns c = record {
  early = refl;
  new = refl;
  new_then = refl;
  known = refl;
  known_then = refl;
  far_early = refl;
  far_new_then = refl;
  greatest = record {
    score_a = StandsAt-from_test _ _ 0 _ _ _ refl;
    score_y = StandsAt-from_test _ _ 0 _ _ _ refl;
    merged_a = MeetAt-from_test _ _ _ 0 _ _ _ refl;
    merged_y = MeetAt-from_test _ _ _ 0 _ _ _ refl;
  };
  least = record {
    score_a = StandsAt-from_test _ _ 0 _ _ _ refl;
    score_y = StandsAt-from_test _ _ 0 _ _ _ refl;
    merged_a = MeetAt-from_test _ _ _ 0 _ _ _ refl;
    merged_y = MeetAt-from_test _ _ _ 0 _ _ _ refl;
  };
}
