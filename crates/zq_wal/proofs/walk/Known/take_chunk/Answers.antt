use Rattle.std.proofs.Common.{List, [], subst, sym, ℕ}
use Rattle.zq_wal.specs.Replay.{Replayed}
use Rattle.zq_wal.specs.Walk.{tail_of}
use Rattle.zq_wal.proofs.Walks.{recovered_none}
use Rattle.zq_wal.proofs.walk.Known.take_chunk.Goals as goal

pub returns-in_default-clause-replayed : goal.returns-in_default-clause-replayed
returns-in_default-clause-replayed g c = λ bytes first is known so_far.
    subst (λ (l : List (List ℕ)). Replayed g.R.Replay.replays first l c.args.replay.now) (sym (recovered_none bytes (c.in_default.ensures.none (tail_of [] bytes) is))) so_far
