use Rattle.std.proofs.Common.{length, map, ◌≡◌}
use Rattle.zq_world.specs.Play.{event_of}
use Rattle.zq_world.specs.Wanted.{AreWanted, places_in}
use Rattle.zq_world.proofs.wanted.wanted_at.Given as goal

abbrev pub invariant-loop-place : goal.invariant-loop-place
invariant-loop-place l = record {
  number : length l.wanted.items ≡ length l.events;
  wanted : AreWanted l.place (map event_of l.events) (places_in l.wanted.items);
}
