use Rattle.zq_wal.proofs.Escaping.{encoded_parts}
use Rattle.zq_wal.proofs.record.encode.Goals as goal

pub returns : goal.returns
returns c = encoded_parts c.args.payload.now c.args.out.now.items c.escape.new.out.items c.escape-2.new.out.items c.push.new.self.items
    (cc (c.in_ok-escape.ensures, c.to_be_bytes-sum.ensures, c.fnv1a64.ensures)) (c.in_ok-escape-2.ensures) c.in_ok-push.ensures.items
