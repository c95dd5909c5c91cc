use Rattle.std.proofs.Common.{ap, sym, ◌∙◌}
use Rattle.std.proofs.lemmas.List.{length-map}
use Rattle.std.specs.FinMap.{get, len}
use Rattle.std.specs.Prelude.{length, slice_get}
use Rattle.zq_posheap.proofs.Entries.{seen_in, seen_listed}
use Rattle.zq_posheap.proofs.Listed.{listed}
use Rattle.zq_posheap.proofs.Listings.{length-listing}
use Rattle.zq_posheap.specs.Listing.{entry_row}
use Rattle.zq_posheap.specs.Moves.{shown}
use Rattle.zq_posheap.proofs.pos_heap.PosHeap.len.Goals as goal

pub returns-clause-number : goal.returns-clause-number
returns-clause-number g c =
    let es = c.self.inside.heap.members.entries in
    c.len.ensures.len ∙ sym (length-map es entry_row) ∙ length-listing (seen_in shown es) _ (listed es c.len.ensures.unique) ∙ ap (λ m. len m.held) c.self.view_is

pub returns-clause-places : goal.returns-clause-places
returns-clause-places g c = c.len.ensures.len ∙ sym (length-map c.self.inside.heap.members.entries (λ e. e.0)) ∙ ap (λ m. length m.places) c.self.view_is

pub returns-clause-listed : goal.returns-clause-listed
returns-clause-listed g c = λ member e got.
    let at = seen_listed shown c.self.inside.heap.members.entries member e (ap (λ m. get m.held member) c.self.view_is ∙ got) in
    (at.0, ap (λ m. slice_get m.places at.0) (sym c.self.view_is) ∙ at.1)
