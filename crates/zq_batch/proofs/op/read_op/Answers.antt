use Rattle.zq_batch.proofs.OpsAgain.{op_found}
use Rattle.zq_dots.specs.Act.{act_of}
use Rattle.zq_batch.proofs.op.read_op.Goals as goal

pub returns-clause-found : goal.returns-clause-found
returns-clause-found c =
    rw c.new.ensures (op_found c.args.heap c.args.before.now c.in_ok-head.head c.in_ok-site.site c.in_ok-count.count c.in_ok-seen.seen (act_of c.in_ok-act.act) c.in_ok-key.key.now c.in_ok-member.member.now c.args.bytes.now.now c.read_head.new.bytes.now c.read_own.new.bytes.now c.read_count.new.bytes.now c.read_seen.new.bytes.now c.read_act.new.bytes.now c.read_key.new.bytes.now c.read_name.new.bytes.now c.in_ok-head.ensures.found c.in_ok-site.ensures.found c.in_ok-site.ensures.again c.in_ok-count.ensures.found c.in_ok-count.ensures.few c.in_ok-seen.ensures.found c.in_ok-seen.ensures.count c.in_ok-act.ensures.found c.in_ok-act.ensures.kind c.in_ok-key.ensures.found c.in_ok-key.ensures.again c.in_ok-member.ensures.found)
