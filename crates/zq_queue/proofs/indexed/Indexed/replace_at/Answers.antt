use Rattle.std.proofs.Common.{ap, subst, sym, ◌∙◌}
use Rattle.std.proofs.lemmas.Int.{to_z-of_z}
use Rattle.std.specs.Int.{w128}
use Rattle.std.specs.Prelude.{slice_get}
use Rattle.zq_posheap.proofs.InRange.{range-insert}
use Rattle.zq_posheap.specs.Members.{AreInRange, scores_of}
use Rattle.zq_queue.proofs.Indexes.{scores_of-insert}
use Rattle.zq_queue.specs.Indexed.{IsIndexOf}
use Rattle.zq_queue.proofs.indexed.Indexed.replace_at.Goals as goal

pub invariant_of-self : goal.invariant_of-self
invariant_of-self c =
    let held = c.self.inside.members.held in
    let m = c.args.member.now in
    let same = to_z-of_z w128 c.args.score c.ranges.score in
    let place = ap (λ q. slice_get q.places c.args.place.index) c.self.view_is ∙ c.requires.place in
    let done = rw same at (c.replace_at.ensures.held m place) in
    let with = rw same at c.with_score.ensures in (
      subst (λ s. IsIndexOf s c.with_score.result) (sym (ap scores_of done ∙ scores_of-insert held m (c.args.score, c.args.entry)))
          (with (subst (IsIndexOf (scores_of held)) (sym c.take.ensures.value) c.self.invariant.0)),
      subst AreInRange (sym done) (range-insert held c.self.invariant.1 m (c.args.score, c.args.entry) c.ranges.score),
    )
