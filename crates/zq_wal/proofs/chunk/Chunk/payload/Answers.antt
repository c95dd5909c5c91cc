use Rattle.std.proofs.Common.{◌≡◌, IfSome, List, subst, ℕ}
use Rattle.std.specs.Prelude.{IfNone, None, Some}
use Rattle.zq_wal.specs.Format.{checked_bytes}
use Rattle.zq_wal.proofs.ChunkSteps.{escaped_is_none, payload_none, payload_some, spoilt_is_none}
use Rattle.zq_wal.proofs.chunk.Chunk.payload.Goals as goal
use Rattle.zq_wal.proofs.chunk.Chunk.payload.Goals.{then-self-via-then-self, then-self-via-else-self+then-self-2}

pub returns-then-self-clause-none : goal.returns-then-self-clause-none
returns-then-self-clause-none c = λ bytes is. elim c.then-self.branch [
  | then-self-via-then-self w ↦ spoilt_is_none bytes c.args.self.now is w.if-self.true
  | then-self-via-else-self+then-self-2 w ↦ escaped_is_none bytes c.args.self.now is w.if-self-2.true
]

pub returns-clause-some : goal.returns-clause-some
returns-clause-some c = payload_some c.args.self.now c.payload_behind_sum.result c.if-self.false c.if-self-2.false
    (subst (λ (l : List ℕ). IfSome c.payload_behind_sum.result (λ p. checked_bytes l ≡ Some p.now)) c.deref.ensures.value c.payload_behind_sum.ensures.some)

pub returns-clause-none : goal.returns-clause-none
returns-clause-none c = payload_none c.args.self.now c.payload_behind_sum.result c.if-self.false c.if-self-2.false
    (subst (λ (l : List ℕ). IfNone c.payload_behind_sum.result (checked_bytes l ≡ None)) c.deref.ensures.value c.payload_behind_sum.ensures.none)
