-- An ordered index of a key's members beside them.

use Rattle.std.specs.Prelude.{None, Option, Some}
use Rattle.std.specs.declared.alloc.Global.{Global}
use Rattle.std.specs.declared.boxed.Box.{Box}
use Rattle.zq_posheap.specs.InOrder.{ListsInOrder}
use Rattle.zq_posheap.specs.Members.{Scores}
use Rattle.zq_ranked.specs.declared.ranked.Ranked.{Ranked}

-- where there is an index, its list has the scores with their members in order
abbrev pub IsIndexOf : Scores → Option (Box Ranked Global) → Type 0
IsIndexOf scores None = Unit {0}
IsIndexOf scores (Some index) = ListsInOrder scores index.value
