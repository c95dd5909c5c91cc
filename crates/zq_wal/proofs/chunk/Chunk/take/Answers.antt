use Rattle.std.proofs.Common.{◌≡◌, ◌≢◌, ◌⊎◌, arith, inl, inr, refl, sym}
use Rattle.std.specs.Prelude.{false, true, ◌==◌, ◌||◌}
use Rattle.std.proofs.lemmas.Bool.Decides.{nat_tests}
use Rattle.zq_wal.proofs.ChunkSteps.{byte_step}
use Rattle.zq_wal.proofs.chunk.Chunk.take.Goals as goal
use Rattle.zq_wal.proofs.chunk.Chunk.take.Goals.{then-self, else-self, else-not-self-via-then-not-self+else-byte-eq-ESCAPE, else-not-self-via-else-not-self}

pub returns : goal.returns
returns c =
    let old = c.args.self.now in
    let byte = c.args.byte in
    let zero : c.if-self.self ≡ (old.has_zero || (byte == 0)) = elim c.if-self.branch [
      | then-self w ↦ grind (arith, nat_tests, w.if-self.true, w.self-is)
      | else-self w ↦ grind (arith, nat_tests, w.if-self.false, w.self-is)
    ] in
    let either : (old.escaped ≡ true) ⊎ (byte ≢ 254) = elim c.else-not-self.branch [
      | else-not-self-via-then-not-self+else-byte-eq-ESCAPE w ↦ inr w.if-byte-eq-ESCAPE.false
      | else-not-self-via-else-not-self w ↦ inl (grind (arith, w.if-not-self.false))
    ] in
    λ bytes is. byte_step bytes byte old (record { bytes = c.push.new.self; escaped = false; spoilt = old.spoilt; has_zero = c.if-self.self }) is zero
    c.in-Some.meant either (sym c.in-Some.ensures) c.if-self-2.false c.if-self-2.false refl c.in_ok-push.ensures.items
