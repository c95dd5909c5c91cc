-- The kinds of frames. The first byte names the kind.

use Rattle.std.specs.Prelude.{None, Option, Some, if◌then◌else◌, ℕ, ◌==◌}
use Rattle.zq_links.specs.declared.kind.Kind.{Kind}
use Rattle.zq_links.specs.declared.kind.Kind.TheVariants.{Have, Ops, State}
use Rattle.zq_merge.specs.declared.version.Version.TheVariants.{One, Three, Two}

abbrev pub kind_byte : Kind → ℕ
kind_byte (Have One) = 1
kind_byte Ops = 2
kind_byte State = 3
kind_byte (Have Two) = 4
kind_byte (Have Three) = 5

abbrev pub kind_of : ℕ → Option Kind
kind_of b =
    if b == 1 then Some (Have One) else
    (if b == 2 then Some Ops else
    (if b == 3 then Some State else
    (if b == 4 then Some (Have Two) else
    (if b == 5 then Some (Have Three) else None))))
