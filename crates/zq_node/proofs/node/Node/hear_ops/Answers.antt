use Rattle.std.proofs.Common.{[], sym}
use Rattle.std.proofs.lemmas.List.{append-nil}
use Rattle.zq_node.proofs.Batched.{heard_on}
use Rattle.zq_node.proofs.Nodes.{none_in, stopped_more, worked_more}
use Rattle.zq_node.proofs.Told.{if_err}
use Rattle.zq_node.proofs.node.Node.hear_ops.Goals as goal
use Rattle.zq_node.specs.Batches.{WasStoppedIn}

pub returns-in_err-settle_all-clause-stopped : goal.returns-in_err-settle_all-clause-stopped
returns-in_err-settle_all-clause-stopped g c =
    let ops = c.args.ops.now in
    let why = c.in_err-settle_all.field-0.0 in
    if_err (WasStoppedIn ops c.args.self.now c.settle_all.new.self) c.from_residual-in_err-settle_all.result why c.from_residual-in_err-settle_all.ensures.1 (record {
      heard = ops;
      left = [];
      split = sym (append-nil ops);
      mid = c.hear_each.new.self;
      some = c.in_ok-hear_each.ensures.heard;
      stopped = stopped_more [] ops c.hear_each.new.self c.settle_all.new.self (none_in ops) c.in_err-settle_all.ensures.stopped;
      stop = c.in_err-settle_all.ensures.fault;
    })

pub returns-clause-heard : goal.returns-clause-heard
returns-clause-heard g c =
    let ops = c.args.ops.now in
    record {
      some = heard_on ops ops c.args.self.now c.hear_each.new.self c.settle_all.new.self c.in_ok-hear_each.ensures.home c.in_ok-hear_each.ensures.heard
          (worked_more [] ops c.hear_each.new.self c.settle_all.new.self (none_in ops) c.in_ok-settle_all.ensures.work);
      wait = c.in_ok-settle_all.ensures.wait;
    }
