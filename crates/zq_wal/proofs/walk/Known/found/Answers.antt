use Rattle.std.proofs.Common.{◌≡◌, arith, refl}
use Rattle.std.specs.Prelude.{false, nat_lt, true, ◌||◌}
use Rattle.std.proofs.lemmas.Bool.Decides.{nat_tests}
use Rattle.zq_wal.proofs.Walks.{corrupt_of_known, found_of_known}
use Rattle.zq_wal.proofs.walk.Known.found.Goals as goal
use Rattle.zq_wal.proofs.walk.Known.found.Goals.{then-self-via-then-self, then-self-via-else-self+then-self-2}

pub returns-then-self-clause-corrupt : goal.returns-then-self-clause-corrupt
returns-then-self-clause-corrupt c =
    let known = c.args.self.now in
    let bad : (known.damaged || nat_lt known.count known.highest) ≡ true = elim c.then-self.branch [
      | then-self-via-then-self w ↦ grind (arith, nat_tests, w.if-self.true)
      | then-self-via-else-self+then-self-2 w ↦ grind (arith, nat_tests, w.if-self.false, w.if-self-2.true)
    ] in
    λ err file is. corrupt_of_known file known is bad

pub returns-clause-found : goal.returns-clause-found
returns-clause-found c =
    let known = c.args.self.now in
    let low : nat_lt known.count known.highest ≡ false = grind (arith, nat_tests, c.if-self-2.false) in
    λ file is. found_of_known file known (record { count = known.count; end = known.end }) is c.if-self.false low refl refl
