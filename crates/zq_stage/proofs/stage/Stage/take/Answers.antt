use Rattle.std.proofs.Common.{ap, refl, subst, sym, ◌∙◌, ◌∷◌, ◌≡◌}
use Rattle.zq_model.proofs.Taken.{taken_known}
use Rattle.zq_model.specs.Image.{image_after}
use Rattle.zq_model.specs.Operation.{Operation}
use Rattle.zq_model.specs.Sets.{Known, New, taken_of}
use Rattle.zq_shard.specs.Shard.{IsOfHeap}
use Rattle.zq_shard.specs.Taken.{answer_of}
use Rattle.zq_stage.specs.Piece.{Staged}
use Rattle.zq_stage.specs.Rows.{with_image}
use Rattle.zq_stage.specs.Staged.{IsStaged}
use Rattle.zq_stage.proofs.stage.Stage.take.Goals as goal

pub returns-in-Ok-Known-clause-staged : goal.returns-in-Ok-Known-clause-staged
returns-in-Ok-Known-clause-staged c = λ v rows S is world.
    let o : Operation = c.args.op.now.operation in
    let here : IsOfHeap c.args.self.now.held c.args.op.now = subst (λ (t : Staged). IsOfHeap t.held c.args.op.now) c.self.view_is (c.in-Ok-Known.ensures.placed.0 refl) in
    let known : taken_of c.args.self.now.held.image.vector o ≡ Known
    = ap (λ (t : Staged). taken_of t.held.image.vector o) (sym c.self.view_is) ∙ sym c.in-Ok-Known.ensures.judged ∙ ap answer_of c.in-Ok-Known.field-0-is in
    c.staging.ensures.knows v rows S o c.args.self.now.held is world here.heap (taken_known c.args.self.now.held.image.vector o known)

pub returns-clause-staged : goal.returns-clause-staged
returns-clause-staged c = λ v rows S is world.
    let o : Operation = c.args.op.now.operation in
    let here : IsOfHeap c.args.self.now.held c.args.op.now = subst (λ (t : Staged). IsOfHeap t.held c.args.op.now) c.self.view_is (c.in-Ok-New.ensures.placed.0 refl) in
    let new : taken_of c.args.self.now.held.image.vector o ≡ New
    = ap (λ (t : Staged). taken_of t.held.image.vector o) (sym c.self.view_is) ∙ sym c.in-Ok-New.ensures.judged ∙ ap answer_of c.in-Ok-New.field-0-is in
    let after : c.put_in.new.self ≡ with_image c.self.inside.shard (image_after o c.self.inside.shard.image)
    = λ i. record { heap = c.in-Ok.ensures.heap i; heaps = c.in-Ok.ensures.heaps i; rule = c.in-Ok.ensures.rule i; image = c.in-Ok.ensures.taken i } in
    subst (IsStaged v rows (o ∷ S)) (sym (after ∙ ap (λ (t : Staged). with_image t.held (image_after o t.held.image)) c.self.view_is))
    (c.staging.ensures.takes v rows S o c.args.self.now.held is world here.heap new)
