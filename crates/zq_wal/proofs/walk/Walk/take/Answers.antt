use Rattle.std.proofs.Common.{List, [], ◌+◌, ◌++◌, ◌∷◌, arith, refl, subst, sym, ℕ}
use Rattle.zq_wal.specs.Replay.{Replayed}
use Rattle.zq_wal.specs.Walk.{IsWalk, tail_of}
use Rattle.zq_wal.specs.declared.walk.Walk.{Walk}
use Rattle.zq_wal.proofs.Walks.{recovered_on, walk_ended, walk_on}
use Rattle.zq_wal.proofs.walk.Walk.take.Goals as goal

pub returns-then-byte-ne-END-clause-walk : goal.returns-then-byte-ne-END-clause-walk
returns-then-byte-ne-END-clause-walk g c = λ bytes is.
    let old = c.args.self.now in
    walk_on bytes c.args.byte old (record { walked = old.walked + 1; chunk = c.take.new.self; known = old.known }) c.if-byte-ne-END.true is refl (c.in_ok-take.ensures (tail_of [] bytes) is.chunk) refl

pub returns-then-byte-ne-END-clause-replayed : goal.returns-then-byte-ne-END-clause-replayed
returns-then-byte-ne-END-clause-replayed g c = λ bytes first is so_far.
    subst (λ (l : List (List ℕ)). Replayed g.R.Replay.replays first l c.args.replay.now) (sym (recovered_on bytes c.args.byte c.if-byte-ne-END.true)) so_far

pub returns-clause-walk : goal.returns-clause-walk
returns-clause-walk g c = λ bytes is.
    let old = c.args.self.now in
    let new : Walk = record { walked = old.walked + 1; chunk = c.clear.new.self; known = c.take_chunk.new.self } in
    subst (λ (b : ℕ). IsWalk (bytes ++ b ∷ []) new) (sym c.if-byte-ne-END.false)
    (walk_ended bytes old new is refl c.clear.ensures (c.in_ok-take_chunk.ensures.known bytes (omega (arith, is.walked)) is.chunk is.known))
