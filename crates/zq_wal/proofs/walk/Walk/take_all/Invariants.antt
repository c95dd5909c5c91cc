use Rattle.std.proofs.Common.{List, take, ◌+◌, ◌++◌, ◌≡◌, ◌≤◌, ℕ}
use Rattle.zq_wal.specs.Format.{recovered}
use Rattle.zq_wal.specs.Replay.{Replayed}
use Rattle.zq_wal.specs.Walk.{IsWalk}
use Rattle.zq_wal.proofs.walk.Walk.take_all.Given as goal

abbrev pub invariant-loop-byte : goal.invariant-loop-byte
invariant-loop-byte g l =
    (l.self.known.count ≤ l.self.walked) × (l.self.walked ≡ l.initial.self.walked + l.byte-index)
    × ((bytes : List ℕ) → IsWalk bytes l.initial.self → IsWalk (bytes ++ take l.byte-index l.piece) l.self)
    × ((bytes : List ℕ) (first : g.row.R.Denot) → IsWalk bytes l.initial.self → Replayed g.R.Replay.replays first (recovered bytes) l.initial.replay →
    Replayed g.R.Replay.replays first (recovered (bytes ++ take l.byte-index l.piece)) l.replay)
