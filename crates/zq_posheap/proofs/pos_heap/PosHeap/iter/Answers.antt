use Rattle.std.proofs.Common.{ap, arith, subst, ◌∙◌}
use Rattle.std.proofs.lemmas.List.{length-map}
use Rattle.std.proofs.lemmas.Simd.{map-map}
use Rattle.std.specs.Prelude.{length, map}
use Rattle.zq_posheap.proofs.Entries.{seen_in}
use Rattle.zq_posheap.proofs.Listed.{listed}
use Rattle.zq_posheap.proofs.Listings.{in_range}
use Rattle.zq_posheap.specs.Listing.{IsListing, entry_row}
use Rattle.zq_posheap.specs.Members.{AreInRange}
use Rattle.zq_posheap.specs.Moves.{shown}
use Rattle.zq_posheap.proofs.pos_heap.PosHeap.iter.Goals as goal

pub new-requires : goal.new-requires
new-requires g c =
    let es = c.self.inside.heap.members.entries in
    record { in_range = rw c.iter.ensures.rest (in_range (seen_in shown es) (map entry_row es) (listed es c.iter.ensures.unique) c.self.invariant.1) }

pub returns-clause-lists : goal.returns-clause-lists
returns-clause-lists g c =
    let es = c.self.inside.heap.members.entries in
    rw (c.new.ensures, c.iter.ensures.rest) (subst (λ m. IsListing m.held (map entry_row es)) c.self.view_is (listed es c.iter.ensures.unique))

pub returns-clause-fits : goal.returns-clause-fits
returns-clause-fits g c = omega (arith, ap length c.new.ensures, length-map c.iter.result entry_row, c.iter.ensures.len, c.iter.ensures.fits)

pub returns-clause-in_range : goal.returns-clause-in_range
returns-clause-in_range g c = subst (λ m. AreInRange m.held) c.self.view_is c.self.invariant.1

pub returns-clause-places : goal.returns-clause-places
returns-clause-places g c =
    let es = c.self.inside.heap.members.entries in
    ap (map (λ row. row.1)) (c.new.ensures ∙ ap (map entry_row) c.iter.ensures.rest) ∙ map-map (λ row. row.1) entry_row es ∙ ap (λ m. m.places) c.self.view_is
