use Rattle.std.proofs.Common.{◌-◌, ◌^◌, ◌≤◌}
use Rattle.zq_wal.specs.Format.{recovered}
use Rattle.zq_wal.specs.Replay.{Replayed}
use Rattle.zq_wal.specs.Walk.{IsRoomy, IsWalk}
use Rattle.zq_wal.proofs.recovery.read_records.Given as goal

abbrev pub invariant-loop-walk : goal.invariant-loop-walk
invariant-loop-walk g l =
    IsWalk (g.S.Source.given l.source) l.walk × Replayed g.R.Replay.replays l.initial.replay (recovered (g.S.Source.given l.source)) l.replay
    × IsRoomy l.walk l.piece.items × (g.S.Source.failures l.initial.source ≤ g.S.Source.failures l.source)

abbrev pub decreases-loop-walk : goal.decreases-loop-walk
decreases-loop-walk g l = 2 ^ 60 - l.walk.walked
