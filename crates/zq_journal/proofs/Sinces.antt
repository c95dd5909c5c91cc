-- What holds of the operations that a peer is given.

use Rattle.std.proofs.Common.{Bool, List, false, refl, sym, true, true≢false, ◌≡◌}
use Rattle.std.specs.Prelude.{not}
use Rattle.zq_dots.specs.Placed.{Placed}
use Rattle.zq_journal.specs.Answers.{IfOps, is_too_old}
use Rattle.zq_journal.specs.declared.since.Since.{Since}
use Rattle.zq_journal.specs.declared.since.Since.TheVariants.{Ops, TooOld}

not_false : (b : Bool) → false ≡ not b → b ≡ true
not_false true e = refl
not_false false e = absurd (true≢false (sym e))

-- what follows of them, where the vector covers the base's
pub if_ops : (since : Since) (covered : Bool) (P Q : List Placed → Type 0) → is_too_old since ≡ not covered →
    (covered ≡ true → (ops : List Placed) → P ops → Q ops) → IfOps since P → IfOps since Q
if_ops TooOld covered P Q old more is = tt {0}
if_ops (Ops ops) covered P Q old more is = more (not_false covered old) ops.items is
