-- The fields of a view, as an operation of the model.

use Rattle.zq_batch.specs.Fields.{placed}
use Rattle.zq_batch.specs.declared.view.View.TheInside.{Inside}
use Rattle.zq_dots.specs.Act.{act_of}
use Rattle.zq_dots.specs.Placed.{Placed}

abbrev pub view_of : Inside → Placed
view_of v = placed v.heap v.site v.seen (act_of v.act) v.key.now v.member.now
