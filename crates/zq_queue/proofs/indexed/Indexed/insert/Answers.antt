use Rattle.std.proofs.Common.{ap, subst, sym, ◌∙◌, ◌≡◌}
use Rattle.std.proofs.lemmas.Int.{to_z-of_z}
use Rattle.std.specs.FinMap.{get}
use Rattle.std.specs.Int.{w128}
use Rattle.std.specs.Prelude.{None}
use Rattle.zq_posheap.proofs.InRange.{range-insert}
use Rattle.zq_posheap.specs.Members.{AreInRange, scores_of}
use Rattle.zq_queue.proofs.Indexes.{no_score, scores_of-insert}
use Rattle.zq_queue.specs.Indexed.{IsIndexOf}
use Rattle.zq_queue.proofs.indexed.Indexed.insert.Goals as goal

pub invariant_of-self-2 : goal.invariant_of-self-2
invariant_of-self-2 c =
    let held = c.self.inside.members.held in
    let m = c.args.member.now in
    let same = to_z-of_z w128 c.args.score c.ranges.score in
    let done = rw same at c.in_ok-insert.ensures.done in
    let with = rw same at c.with_pair.ensures in
    let none : get held m ≡ None = ap (λ q. get q.held m) c.self.view_is ∙ c.requires in (
      subst (λ s. IsIndexOf s c.with_pair.result) (sym (ap scores_of done ∙ scores_of-insert held m (c.args.score, c.args.entry)))
          (with (scores_of held) (no_score held m none) (subst (IsIndexOf (scores_of held)) (sym c.take.ensures.value) c.self.invariant.0)),
      subst AreInRange (sym done) (range-insert held c.self.invariant.1 m (c.args.score, c.args.entry) c.ranges.score),
    )
