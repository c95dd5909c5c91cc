use Rattle.std.proofs.Common.{map}
use Rattle.zq_dots.specs.Rule.{rule_of}
use Rattle.zq_world.proofs.Plays.{IsAt}
use Rattle.zq_world.specs.Play.{event_of}
use Rattle.zq_world.proofs.playing.play_ruled.Given as goal

abbrev pub invariant-loop-place : goal.invariant-loop-place
invariant-loop-place l = IsAt (rule_of l.fn.rule) l.heaps l.sites (map event_of l.events) l.place l.player l.frames.items
