use Rattle.std.proofs.Common.{inl, inr, refl, ◌∙◌}
use Rattle.zq_replica.proofs.Gathers.{gathered_by, standing_by}
use Rattle.zq_replica.proofs.replica.Replica.finish.Goals as goal

pub returns-in-Some-clause-finished : goal.returns-in-Some-clause-finished
returns-in-Some-clause-finished g c =
    inr (
      c.in-Some.shard,
      c.in-Some.ensures.whole,
      gathered_by c.take_whole.new.self c.exchange.new.self c.exchange.ensures.steady
          ∙ c.in-Some.ensures.taken,
      c.exchange.ensures.replaced,
    )

pub returns-in-None-clause-finished : goal.returns-in-None-clause-finished
returns-in-None-clause-finished g c =
    inl (c.in-None.ensures.none.0, c.in-None.ensures.none.1, refl)

pub returns-in-Some-clause-standing : goal.returns-in-Some-clause-standing
returns-in-Some-clause-standing g c =
    standing_by c.take_whole.new.self c.exchange.new.self c.exchange.ensures.steady
    ∙ c.take_whole.ensures.standing
