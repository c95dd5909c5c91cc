use Rattle.std.proofs.Common.{subst}
use Rattle.std.proofs.lemmas.Int.{to_z-of_z}
use Rattle.std.specs.FinMap.{get}
use Rattle.std.specs.Int.{w128}
use Rattle.std.specs.Prelude.{FitsSigned, Some, ◌≡◌}
use Rattle.zq_posheap.specs.Members.{scores_of}
use Rattle.zq_queue.proofs.Indexes.{its_score}
use Rattle.zq_queue.specs.Indexed.{IsIndexOf}
use Rattle.zq_queue.proofs.index.with_score.Goals as goal

pub returns : goal.returns
returns c = λ its.
    let held = c.args.members.now.held in
    let m = c.args.member.now in
    let got : get held m ≡ Some (c.at-before.result.0, c.at-before.result.1.now) = c.at-before.ensures m c.requires.place in
    let fits : FitsSigned w128 c.at-before.result.0 = c.requires.in_range m _ got in
    let moved = rw (to_z-of_z w128 c.at-before.result.0 fits, to_z-of_z w128 c.args.score c.ranges.score) at c.with_moved.ensures in
    moved (scores_of held) (its_score held m _ got) (subst (IsIndexOf (scores_of held)) c.in_ok-index.was its)
