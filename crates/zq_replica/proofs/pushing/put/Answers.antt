use Rattle.zq_replica.proofs.Putting.{put_so}
use Rattle.zq_replica.proofs.pushing.put.Goals as goal

pub returns-in_ok-bytes-in-Some-clause-put : goal.returns-in_ok-bytes-in-Some-clause-put
returns-in_ok-bytes-in-Some-clause-put c =
    put_so c.address.result c.args.peer c.args.frame c.in-Some.frame c.in_ok-bytes-in-Some.bytes
    c.args.out.now.items c.address.new.out.items c.in-Some.is c.in_ok-bytes-in-Some.ensures
    c.address.ensures.appended
