use Rattle.std.proofs.Common.{[], refl}
use Rattle.zq_node.proofs.Nodes.{each_heard, none_in, still_heard, stopped_after, then_worked, turns_site, turns_work, worked_more}
use Rattle.zq_node.proofs.Told.{if_err}
use Rattle.zq_node.proofs.node.Node.take_all.Goals as goal
use Rattle.zq_node.specs.Hearing.{AreOpsStopped}

pub returns-in_err-take_each-clause-stopped : goal.returns-in_err-take_each-clause-stopped
returns-in_err-take_each-clause-stopped g c =
    if_err (AreOpsStopped c.args.ops.now c.args.self.now c.take_each.new.self) c.from_residual.result c.in_err-take_each.field-0.0 c.from_residual.ensures.1 c.in_err-take_each.ensures.stopped

pub returns-in_err-settle_all-clause-stopped : goal.returns-in_err-settle_all-clause-stopped
returns-in_err-settle_all-clause-stopped g c =
    let why = c.in_err-settle_all.field-0.0 in
    if_err (AreOpsStopped c.args.ops.now c.args.self.now c.settle_all.new.self) c.from_residual-in_err-settle_all.result why c.from_residual-in_err-settle_all.ensures.1
    (stopped_after c.args.ops.now c.args.self.now c.take_each.new.self c.settle_all.new.self why c.in_ok-take_each.ensures.turns c.in_err-settle_all.ensures.fault c.in_err-settle_all.ensures.stopped)

pub returns-clause-heard : goal.returns-clause-heard
returns-clause-heard g c =
    let ops = c.args.ops.now in
    let old = c.args.self.now in
    let mid = c.take_each.new.self in
    let new = c.settle_all.new.self in
    let turns = c.in_ok-take_each.ensures.turns in
    let tried = c.in_ok-settle_all.ensures.work in
    record {
      work = then_worked ops old mid new c.in_ok-take_each.ensures.home (turns_work ops old mid turns) (worked_more [] ops mid new (none_in ops) tried);
      heard = mid;
      turns = turns;
      tried = tried;
      each = λ o here. still_heard ops [] old mid new o tried (each_heard [] ops old old mid refl turns o here);
      wait = c.in_ok-settle_all.ensures.wait;
    }

pub returns-clause-for_site : goal.returns-clause-for_site
returns-clause-for_site g c = turns_site c.args.ops.now c.args.self.now c.take_each.new.self c.in_ok-take_each.ensures.turns
