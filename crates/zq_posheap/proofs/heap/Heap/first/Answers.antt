use Rattle.std.proofs.Common.{ap, subst, sym, true≢false, ◌∙◌}
use Rattle.std.proofs.lemmas.Int.{to_z-of_z}
use Rattle.std.specs.Int.{w128}
use Rattle.std.specs.Prelude.{slice_get}
use Rattle.zq_posheap.proofs.ScoresOf.{score_in_range, scores_of_seen}
use Rattle.zq_posheap.proofs.Told.{known_within}
use Rattle.zq_posheap.proofs.Tops.{first_is, same_first}
use Rattle.zq_posheap.specs.First.{IsFirst}
use Rattle.zq_posheap.specs.Members.{scores_of}
use Rattle.zq_posheap.specs.Whole.{entries_map}
use Rattle.zq_posheap.proofs.heap.Heap.first.Goals as goal

pub returns-in_err-member-clause-none : goal.returns-in_err-member-clause-none
returns-in_err-member-clause-none g c =
    let heap = c.args.self.now in
    let at_top = sym (c.in_ok-slot.ensures.value ∙ ap (λ xs. slice_get xs 0) c.deref.ensures.value) in
    let within = known_within heap c.in_ok-slot.slot.now (c.requires.whole.linked.near 0 c.in_ok-slot.slot.now at_top) in
    absurd (true≢false (sym (c.in_err-member.ensures.found.1 within)))

pub returns-clause-first : goal.returns-clause-first
returns-clause-first g c =
    let heap = c.args.self.now in
    let slot = c.in_ok-slot.slot.now in
    let text = c.in_ok-member.member.now in
    let at_top = sym (c.in_ok-slot.ensures.value ∙ ap (λ xs. slice_get xs 0) c.deref.ensures.value) in
    let seen = first_is heap.members.entries heap.slots.items heap.positions.items c.requires.whole.linked c.requires.whole.ordered slot c.in_ok-member.member.now
    c.in_ok-member.held.now at_top (sym c.in_ok-member.ensures.entry) c.in_ok-member.ensures.value in
    let score = c.in_ok-member.held.now.score in
    let first = subst (λ m. IsFirst m (score, text)) (sym (scores_of_seen heap.members.entries)) seen in
    let fits = to_z-of_z w128 score (score_in_range (entries_map heap) c.requires.in_range text score first.there) in
    same_first (scores_of (entries_map heap)) score _ text c.as_slice.result.now (sym fits) (sym c.as_slice.ensures) first
