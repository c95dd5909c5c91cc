use Rattle.zq_links.proofs.Taken.{all_taken}
use Rattle.zq_links.proofs.ops.read_ops.Goals as goal

pub returns-clause-found : goal.returns-clause-found
returns-clause-found c =
    all_taken c.in_ok-ops.ops.items c.in-Some.count c.args.bytes.now.now c.in-Some.rest.now c.read_each.new.bytes.now c.in-Some.ensures.found c.in_ok-ops.ensures.count c.in_ok-ops.ensures.found
