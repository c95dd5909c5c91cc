use Rattle.std.proofs.Common.{ap, subst, sym, ◌∙◌}
use Rattle.std.specs.Prelude.{slice_get}
use Rattle.zq_posheap.proofs.InRange.{range-remove}
use Rattle.zq_posheap.specs.Members.{AreInRange, scores_of}
use Rattle.zq_queue.proofs.Indexes.{scores_of-remove}
use Rattle.zq_queue.specs.Indexed.{IsIndexOf}
use Rattle.zq_queue.proofs.indexed.Indexed.remove_at.Goals as goal

pub invariant_of-self : goal.invariant_of-self
invariant_of-self c =
    let held = c.self.inside.members.held in
    let m = c.args.member.now in
    let place = ap (λ q. slice_get q.places c.args.place.index) c.self.view_is ∙ c.requires.place in
    let done = c.remove_at-entry.ensures.held m place in (
      subst (λ s. IsIndexOf s c.without_place.result) (sym (ap scores_of done ∙ scores_of-remove held m))
          (c.without_place.ensures (subst (IsIndexOf (scores_of held)) (sym c.take.ensures.value) c.self.invariant.0)),
      subst AreInRange (sym done) (range-remove held c.self.invariant.1 m),
    )
