-- The kinds of control frames. The first byte names the kind.

use Rattle.std.specs.Prelude.{None, Option, Some, if◌then◌else◌, ℕ, ◌==◌}
use Rattle.zq_links.specs.declared.control.kind.ControlKind.{ControlKind}
use Rattle.zq_links.specs.declared.control.kind.ControlKind.TheVariants.{At, Behind, Fetch, Routes}

abbrev pub kind_byte : ControlKind → ℕ
kind_byte Routes = 6
kind_byte At = 7
kind_byte Behind = 8
kind_byte Fetch = 9

abbrev pub kind_of : ℕ → Option ControlKind
kind_of b =
    if b == 6 then Some Routes else
    (if b == 7 then Some At else
    (if b == 8 then Some Behind else
    (if b == 9 then Some Fetch else None)))
