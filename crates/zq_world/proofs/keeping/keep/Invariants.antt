use Rattle.std.proofs.Common.{length, map, take, ◌≡◌}
use Rattle.zq_world.proofs.Keepings.{AreSoFar}
use Rattle.zq_world.specs.Keeping.{AreReady}
use Rattle.zq_world.specs.Play.{Holds, Played, event_of}
use Rattle.zq_world.proofs.keeping.keep.Given as goal

abbrev pub invariant-loop-i : goal.invariant-loop-i
invariant-loop-i l = record {
  number : length l.frames.items ≡ length l.initial.frames.items;
  ready : (played : Played) → Holds played l.player → length played.events ≡ l.at → AreReady played l.at l.at (map event_of l.events) (map (λ frame. frame.items) l.initial.frames.items) →
      AreSoFar played l.at (take l.i l.places) (map event_of l.events) l.frames.items;
}
