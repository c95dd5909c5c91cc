-- The kinds of entries. The first byte names the kind; that of a piece is the frame's own.

use Rattle.std.specs.Prelude.{None, Option, Some, if◌then◌else◌, ℕ, ◌==◌}
use Rattle.zq_entries.specs.declared.kind.Kind.{Kind}
use Rattle.zq_entries.specs.declared.kind.Kind.TheVariants.{Piece, Rest, Round, Sealed, Start}

abbrev pub kind_byte : Kind → ℕ
kind_byte Start = 1
kind_byte Round = 2
kind_byte Sealed = 3
kind_byte Rest = 4
kind_byte Piece = 10

abbrev pub kind_of : ℕ → Option Kind
kind_of b =
    if b == 1 then Some Start else
    (if b == 2 then Some Round else
    (if b == 3 then Some Sealed else
    (if b == 4 then Some Rest else
    (if b == 10 then Some Piece else None))))
