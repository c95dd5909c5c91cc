-- The lists of a drill.

use Rattle.std.specs.Prelude.{List, map, ℕ, ℤ}
use Rattle.std.specs.declared.alloc.Global.{Global}
use Rattle.std.specs.declared.vec.Vec.{Vec}
use Rattle.zq_model.specs.Meaning.{Scored}

-- a score and its member
abbrev pub listed : ℤ × Vec ℕ Global → Scored
listed pair = (pair.0, pair.1.items)

abbrev pub lists_of : List (Vec (ℤ × Vec ℕ Global) Global) → List (List Scored)
lists_of lists = map (λ list. map listed list.items) lists
