-- What a book answers to a peer.

use Rattle.std.specs.Prelude.{Bool, List, false, true}
use Rattle.zq_dots.specs.Placed.{Placed}
use Rattle.zq_journal.specs.declared.since.Since.{Since}
use Rattle.zq_journal.specs.declared.since.Since.TheVariants.{Ops, TooOld}

abbrev pub is_too_old : Since → Bool
is_too_old TooOld = true
is_too_old (Ops ops) = false

-- a fact of the operations answered
abbrev pub IfOps : Since → (List Placed → Type 0) → Type 0
IfOps TooOld P = Unit {0}
IfOps (Ops ops) P = P ops.items
