use Rattle.std.proofs.Common.{subst}
use Rattle.zq_drill.proofs.exchange.hand_over.Goals as goal
use Rattle.zq_drill.specs.SiteHandles.{site_of}
use Rattle.zq_node.specs.Calls.{IsCalled, Merged}

pub returns-clause-handed : goal.returns-clause-handed
returns-clause-handed g c =
    let receiver = c.args.receiver.now in
    record {
      image = c.in_ok-copy.copy;
      copied = c.in_ok-copy.ensures.copied;
      merged = subst (λ s. IsCalled (site_of receiver) receiver.pass c.merge.new.self.pass (Merged s)) c.in_ok-shard.ensures.same c.in_ok-merge.ensures.merged;
    }
