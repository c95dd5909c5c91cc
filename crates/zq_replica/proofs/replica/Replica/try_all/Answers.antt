use Rattle.std.proofs.Common.{◌∙◌}
use Rattle.zq_replica.proofs.Tried.{done_after, is_done, is_lacking, is_old, old_after, one_more, stopped_in}
use Rattle.zq_replica.proofs.replica.Replica.try_all.Goals as goal

pub returns-in-Ok-Done-clause-tried : goal.returns-in-Ok-Done-clause-tried
returns-in-Ok-Done-clause-tried g c =
    done_after c.args.shard.now c.loop-try.shard c.try_once.new.shard c.args.node.now c.loop-try.node
    c.try_once.new.node c.loop-try.invariant.tries
    (is_done c.in-Ok-Done.field-0 c.loop-try.shard c.try_once.new.shard c.loop-try.node c.try_once.new.node c.in-Ok-Done.field-0-is c.in-Ok-Done.ensures.tried)

pub returns-in-Ok-Old-clause-tried : goal.returns-in-Ok-Old-clause-tried
returns-in-Ok-Old-clause-tried g c =
    old_after c.args.shard.now c.loop-try.shard c.try_once.new.shard c.args.node.now
    c.loop-try.node c.try_once.new.node c.loop-try.invariant.tries
    (is_old c.in-Ok-Old.field-0 c.loop-try.shard c.try_once.new.shard c.loop-try.node c.try_once.new.node c.in-Ok-Old.field-0-is c.in-Ok-Old.ensures.tried)

pub returns-in-Err-clause-tried : goal.returns-in-Err-clause-tried
returns-in-Err-clause-tried g c =
    stopped_in c.args.shard.now c.loop-try.shard c.args.node.now c.loop-try.node
    c.try_once.new.node c.loop-try.invariant.tries c.in-Err.ensures.tried

pub loop-try-preserved : goal.loop-try-preserved
loop-try-preserved g c = record {
  node = c.try_once.ensures.node;
  home = c.try_once.ensures.home ∙ c.loop-try.invariant.home;
  tries = one_more c.args.shard.now c.loop-try.shard c.try_once.new.shard c.args.node.now
      c.loop-try.node c.try_once.new.node c.loop-try.invariant.tries
      (is_lacking c.in-Ok-Lacks.field-0 c.loop-try.shard c.try_once.new.shard c.loop-try.node c.try_once.new.node c.in-Ok-Lacks.field-0-is c.in-Ok-Lacks.ensures.tried);
}
