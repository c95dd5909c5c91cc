use Rattle.std.proofs.Common.{ap, inl, ◌≡◌}
use Rattle.zq_replica.proofs.Gathers.{gathered_judged, piece_after}
use Rattle.zq_replica.proofs.Judged.{weighed_by}
use Rattle.zq_replica.proofs.Replaced.{completed_after}
use Rattle.zq_replica.specs.Told.{told_by_piece}
use Rattle.zq_replica.specs.declared.joining.Joining.{Joining}
use Rattle.zq_replica.proofs.replica.Replica.hear_piece.Goals as goal

pub returns-clause-completed : goal.returns-clause-completed
returns-clause-completed g c =
    let was = c.args.self.now in
    completed_after c.args.from (λ heap. told_by_piece was.own was.heaps heap c.args.piece)
    c.args.piece c.args.node.now c.fences_by_piece.new.node c.gather.new.node was
    c.fences_by_piece.new.self c.in_ok-fences_by_piece.field-0 c.if-branch.false
    c.in_ok-fences_by_piece.ensures.judged c.fences_by_piece.ensures.shows
    c.gather.ensures.completed

pub returns-clause-weighed : goal.returns-clause-weighed
returns-clause-weighed g c =
    let was = c.args.self.now in
    let standing = c.gather.ensures.standing in
    weighed_by c.gather.result c.args.from
    (λ heap. told_by_piece was.own was.heaps heap c.args.piece)
    (λ (before now : Joining). now ≡ before) c.args.node.now c.fences_by_piece.new.node
    c.gather.new.node was c.fences_by_piece.new.self c.gather.new.self
    c.args.out.now.items c.gather.new.out.items c.in_ok-fences_by_piece.field-0
    c.if-branch.false c.in_ok-fences_by_piece.ensures.judged (ap (λ p. p.0) standing)
    (ap (λ p. p.1) standing)

pub returns-then-branch-clause-gathers : goal.returns-then-branch-clause-gathers
returns-then-branch-clause-gathers g c =
    let was = c.args.self.now in
    inl (gathered_judged c.args.from (λ heap. told_by_piece was.own was.heaps heap c.args.piece)
    c.args.node.now c.fences_by_piece.new.node was c.fences_by_piece.new.self
    c.in_ok-fences_by_piece.field-0 c.in_ok-fences_by_piece.ensures.judged)

pub returns-clause-gathers : goal.returns-clause-gathers
returns-clause-gathers g c =
    let was = c.args.self.now in
    piece_after c.args.from (λ heap. told_by_piece was.own was.heaps heap c.args.piece) c.args.piece
    c.args.node.now c.fences_by_piece.new.node was c.fences_by_piece.new.self
    c.gather.new.self.gathering c.in_ok-fences_by_piece.field-0 c.if-branch.false
    c.in_ok-fences_by_piece.ensures.judged c.gather.ensures.gathers
