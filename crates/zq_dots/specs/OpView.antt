-- The fields of the code's operation, as an operation of the model.

use Rattle.zq_dots.specs.Act.{act_of}
use Rattle.zq_dots.specs.Placed.{Placed}
use Rattle.zq_dots.specs.declared.op.Op.TheInside.{Inside}

abbrev pub placed_of : Inside → Placed
placed_of o = record {
  heaps = o.heaps;
  operation = record {
    heap = o.heap;
    site = o.dot.site;
    n = o.dot.n;
    seen = o.seen;
    key = o.key.items;
    member = o.member.items;
    act = act_of o.act;
  };
}
