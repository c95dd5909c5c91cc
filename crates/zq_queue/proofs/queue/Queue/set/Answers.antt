use Rattle.std.proofs.Common.{subst}
use Rattle.std.specs.Prelude.{OnOk}
use Rattle.zq_queue.proofs.Seen.{seen}
use Rattle.zq_queue.proofs.Sinking.{added_if, exchanged}
use Rattle.zq_queue.specs.Place.{index_of}
use Rattle.zq_queue.specs.Sinks.{Sinks}
use Rattle.zq_queue.proofs.queue.Queue.set.Goals as goal

pub returns-in-Some-clause-sinks : goal.returns-in-Some-clause-sinks
returns-in-Some-clause-sinks c =
    subst (λ q. Sinks q (seen c.exchange.new.self)) c.self.view_is
    (exchanged (seen c.self.inside.members) (seen c.exchange.new.self) (index_of c.in-Some.place) c.args.member.now c.args.entry c.in-Some.ensures.place c.exchange.ensures.places c.exchange.ensures.set)

pub returns-in-None-clause-sinks : goal.returns-in-None-clause-sinks
returns-in-None-clause-sinks c =
    subst (λ q. OnOk c.add.result (Sinks q (seen c.add.new.self))) c.self.view_is
    (added_if c.add.result (seen c.self.inside.members) (seen c.add.new.self) c.args.member.now c.args.entry c.add.ensures.places)
