use Rattle.zq_replica.proofs.Asked.{asked_again}
use Rattle.zq_replica.proofs.replica.Replica.grow.Goals as goal

pub returns-clause-grown : goal.returns-clause-grown
returns-clause-grown g c =
    let shown = c.since.ensures in record {
      number = c.args.heap;
      vector = c.vector.result.now;
      answer = c.in_ok-since.since;
      asked = c.since.new.self;
      called = c.in_ok-since.ensures.asked;
      shows = asked_again c.args.node.now c.since.new.self c.drain_heap.new.node
          (record { home = shown.home; parked = shown.parked; took_nothing = shown.took_nothing })
          c.drain_heap.ensures.shows;
      took = c.take_since.ensures;
    }
