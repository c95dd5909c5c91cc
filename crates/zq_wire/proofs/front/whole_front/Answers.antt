use Rattle.zq_wire.proofs.Framed.{framed_found}
use Rattle.zq_wire.proofs.front.whole_front.Goals as goal

pub returns-clause-spelled : goal.returns-clause-spelled
returns-clause-spelled c =
    let found = c.in-Some-read_bytes in
    framed_found c.in-Some.size c.args.bytes.now c.in-Some.rest.now found.frame.now found.after.now c.in-Some.ensures.found found.ensures.found found.ensures.count
