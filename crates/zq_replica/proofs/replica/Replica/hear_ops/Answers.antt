use Rattle.std.proofs.Common.{inl, inr, sym, ◌∙◌}
use Rattle.std.proofs.lemmas.Option.{slice_get_within}
use Rattle.zq_replica.proofs.Gathers.{gathered_by}
use Rattle.zq_replica.proofs.replica.Replica.hear_ops.Goals as goal

pub returns-then-are_of-clause-gathers : goal.returns-then-are_of-clause-gathers
returns-then-are_of-clause-gathers g c = λ frame of.
    inr (
      c.heap-heap.result,
      c.args.ops.now,
      of,
      (slice_get_within _ 0 c.in-Some.first.now (sym c.in-Some.ensures.value), c.are_of.ensures.all c.if-are_of.true),
      sym c.gathers.ensures ∙ c.if-gathers.true,
      c.gather_ops.ensures.gathers,
    )

pub returns-clause-gathers : goal.returns-clause-gathers
returns-clause-gathers g c = λ frame of.
    inl (gathered_by c.args.self.now c.take_ops.new.self c.take_ops.ensures.steady)
