use Rattle.std.proofs.Common.{ap, subst, sym, ◌∙◌}
use Rattle.std.proofs.lemmas.Simd.{map-map}
use Rattle.zq_dots.specs.Rule.{rule_of}
use Rattle.zq_posheap.specs.Listing.{IsListing}
use Rattle.zq_queue.proofs.Eithers.{few_lists, many_lists}
use Rattle.zq_queue.specs.Few.{names_in, row_of, rows_of}
use Rattle.zq_queue.specs.Form.{places_in}
use Rattle.std.specs.Prelude.{map}
use Rattle.zq_queue.specs.Built.{row_pair}
use Rattle.zq_queue.proofs.members.Members.iter.Goals as goal

pub returns-in-Few-clause-lists : goal.returns-in-Few-clause-lists
returns-in-Few-clause-lists c = subst (λ k. IsListing k.entries (rows_of c.as_slice.result.now)) c.self.view_is
    (few_lists (rule_of c.self.inside.rule) c.self.inside.form c.in-Few.list c.as_slice.result.now c.in-Few.is c.as_slice.ensures.value c.self.invariant)

pub returns-in-Many-clause-lists : goal.returns-in-Many-clause-lists
returns-in-Many-clause-lists c = subst (λ k. IsListing k.entries (map row_pair c.iter.result)) c.self.view_is
    (many_lists (rule_of c.self.inside.rule) c.self.inside.form c.in-Many.many c.deref.result.now c.in-Many.is c.deref.ensures c.self.invariant c.iter.result c.iter.ensures.lists)

pub returns-in-Few-clause-places : goal.returns-in-Few-clause-places
returns-in-Few-clause-places c =
    map-map (λ row. row.1) row_of c.as_slice.result.now ∙ ap names_in c.as_slice.ensures.value ∙ sym (ap places_in c.in-Few.is) ∙ ap (λ k. k.places) c.self.view_is

pub returns-in-Many-clause-places : goal.returns-in-Many-clause-places
returns-in-Many-clause-places c =
    map-map (λ row. row.1) row_pair c.iter.result ∙ c.iter.ensures.places ∙ ap (λ y. y.places) c.deref.ensures ∙ sym (ap places_in c.in-Many.is) ∙ ap (λ k. k.places) c.self.view_is
