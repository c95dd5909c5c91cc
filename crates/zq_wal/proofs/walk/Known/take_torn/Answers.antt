use Rattle.std.proofs.Common.{◌≡◌, arith, refl}
use Rattle.std.specs.Prelude.{not, true, ◌||◌}
use Rattle.zq_wal.proofs.Walks.{known_torn}
use Rattle.zq_wal.proofs.walk.Known.take_torn.Goals as goal
use Rattle.zq_wal.proofs.walk.Known.take_torn.Goals.{then-self, else-self}

pub returns-clause-known : goal.returns-clause-known
returns-clause-known c =
    let old = c.args.self.now in
    let damaged : c.if-self.self ≡ (old.damaged || not c.args.has_zero) = elim c.if-self.branch [
      | then-self w ↦ grind (arith, w.if-self.true, w.self-is)
      | else-self w ↦ grind (arith, w.if-self.false, w.self-is)
    ] in
    λ bytes none zero is. known_torn bytes old (record { count = old.count; end = old.end; torn = true; damaged = c.if-self.self; highest = old.highest }) c.args.has_zero none zero is refl refl refl damaged refl
