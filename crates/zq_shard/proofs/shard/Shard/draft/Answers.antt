use Rattle.std.proofs.Common.{ap, sym, ◌+◌, ◌∙◌, ◌≡◌}
use Rattle.std.specs.Prelude.{slice_index}
use Rattle.zq_model.specs.Operation.{Operation}
use Rattle.zq_shard.proofs.BoundedSteps.{next_new}
use Rattle.zq_shard.specs.Shard.{HeapImage}
use Rattle.zq_shard.proofs.shard.Shard.draft.Goals as goal

pub returns-clause-new : goal.returns-clause-new
returns-clause-new c =
    let is = c.new.ensures.operation in
    let vector : c.self.inside.vector ≡ c.args.self.now.image.vector = ap (λ (s : HeapImage). s.image.vector) c.self.view_is in
    let next : c.new.result.operation.n ≡ slice_index c.args.self.now.image.vector c.new.result.operation.site + 1
    = ap (λ (o : Operation). o.n) is ∙ c.in_ok-dot.ensures.next
    ∙ ap (λ s. slice_index c.args.self.now.image.vector s + 1) (sym c.in_ok-dot.ensures.site ∙ sym (ap (λ (o : Operation). o.site) is)) in
    next_new c.args.self.now.image.vector c.new.result.operation (ap (λ (o : Operation). o.seen) is ∙ vector) next
