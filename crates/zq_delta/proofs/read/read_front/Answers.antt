use Rattle.zq_delta.proofs.Again.{found_front}
use Rattle.zq_delta.specs.Fields.{placed}
use Rattle.zq_dots.specs.Act.{act_of}
use Rattle.zq_delta.proofs.read.read_front.Goals as goal

pub returns-clause-found : goal.returns-clause-found
returns-clause-found c =
    let p = c.in-Ok.parts in
    found_front c.in_ok-version.version c.in_ok-op.op (placed p.head p.seen (act_of p.act) p.key.now p.member.now) c.args.bytes.now c.read_version.new.bytes.now c.read_parts.new.bytes.now c.in_ok-version.ensures.found c.in-Ok.ensures.found c.in_ok-op.ensures c.in-Ok.ensures.version
