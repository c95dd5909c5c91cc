use Rattle.std.proofs.lemmas.List.{take_rest}
use Rattle.zq_links.proofs.Taken.{one_taken}
use Rattle.zq_links.proofs.ops.read_one.Goals as goal

pub returns-in-Ok-clause-found : goal.returns-in-Ok-clause-found
returns-in-Ok-clause-found c =
    let found = c.in-Ok.ensures.found in
    one_taken found.0 c.in-Ok.op c.args.bytes.now.now _ c.in-Ok.used found.1 found.2 (take_rest c.args.bytes.now.now c.in-Ok.used)
