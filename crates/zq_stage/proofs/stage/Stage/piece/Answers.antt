use Rattle.std.proofs.Common.{List, ap, arith, subst, sym, take, ◌++◌, ◌∙◌, ◌≡◌}
use Rattle.zq_model.proofs.Membership.{in_taken}
use Rattle.zq_model.specs.Rows.{Row, rows_of}
use Rattle.zq_stage.specs.Piece.{IsNextPiece, MOST_PIECES, Staged}
use Rattle.zq_stage.specs.Rows.{with_image, with_rows}
use Rattle.zq_stage.specs.Staged.{IsStaged}
use Rattle.zq_stage.proofs.stage.Stage.piece.Goals as goal

pub returns-in-Err-bring-clause-stays : goal.returns-in-Err-bring-clause-stays
returns-in-Err-bring-clause-stays c = λ v rows S T is part world.
    let next : IsNextPiece c.args.self.now c.args.life c.args.number c.args.piece.now = c.in-Ok.ensures.next in
    let n = c.in-Err-bring.ensures.first.0 in
    let more : List Row = take n (rows_of c.args.piece.now.image) in
    let after : c.bring.new.shard ≡ with_image c.self.inside.shard (with_rows more c.self.inside.shard.image)
    = λ i. record { heap = c.in-Err-bring.ensures.heap i; heaps = c.in-Err-bring.ensures.heaps i; rule = c.in-Err-bring.ensures.rule i; image = c.in-Err-bring.ensures.first.1 i } in (
      more,
      subst (IsStaged v (more ++ rows) S) (sym (after ∙ ap (λ (t : Staged). with_image t.held (with_rows more t.held.image)) c.self.view_is))
          (c.staging.ensures.replaces v rows more S T c.args.self.now.held c.args.piece.now is part next.heap world next.vector (λ row i. in_taken row n (rows_of c.args.piece.now.image) i)),
    )

pub overflow_add-self : goal.overflow_add-self
unfolding MOST_PIECES
overflow_add-self c = omega (arith, c.in-Ok.ensures.next.few)

pub returns-clause-staged : goal.returns-clause-staged
returns-clause-staged c = λ v rows S T is part world.
    let next : IsNextPiece c.args.self.now c.args.life c.args.number c.args.piece.now = c.in-Ok.ensures.next in
    let more : List Row = rows_of c.args.piece.now.image in
    let after : c.bring.new.shard ≡ with_image c.self.inside.shard (with_rows more c.self.inside.shard.image)
    = λ i. record { heap = c.in-Ok-bring.ensures.heap i; heaps = c.in-Ok-bring.ensures.heaps i; rule = c.in-Ok-bring.ensures.rule i; image = c.in-Ok-bring.ensures.image i } in
    subst (IsStaged v (more ++ rows) S) (sym (after ∙ ap (λ (t : Staged). with_image t.held (with_rows more t.held.image)) c.self.view_is))
    (c.staging.ensures.replaces v rows more S T c.args.self.now.held c.args.piece.now is part next.heap world next.vector (λ row i. i))
