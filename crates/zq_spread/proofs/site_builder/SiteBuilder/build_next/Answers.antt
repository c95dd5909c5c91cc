use Rattle.std.proofs.Common.{ap, arith, subst, sym, ◌∙◌}
use Rattle.std.proofs.lemmas.List.{with_items_is}
use Rattle.std.specs.List.{AllZip}
use Rattle.std.specs.Prelude.{List, Some, length, refl, slice_get, ℕ, ◌+◌, ◌≡◌}
use Rattle.std.specs.Vec.{with_items}
use Rattle.zq_spread.proofs.Places.{zip_at, zip_length}
use Rattle.zq_spread.proofs.Settled.{settled_next}
use Rattle.zq_spread.proofs.site_builder.SiteBuilder.build_next.Goals as goal
use Rattle.zq_spread.specs.SiteBuilders.{IsCounted, IsSeated}
use Rattle.zq_spread.specs.declared.locked_heap.LockedHeap.{LockedHeap}
use Rattle.zq_spread.specs.declared.pass.Pass.{Pass}
use Rattle.zq_tally.specs.Words.{kept_of, total_of}
use Rattle.zq_tally.specs.Limits.{ALL_PARTS}

pub deal_seats-requires-clause-places : goal.deal_seats-requires-clause-places
deal_seats-requires-clause-places c = λ i pass at.
    let h : ℕ = c.len-heap.result in
    let passes = c.args.self.now.passes in
    let before : List Pass = passes.items in
    let mid : List Pass = c.deal_counts.new.passes in
    let counted : AllZip (IsCounted c.in-Some.field-0.tally h) before mid = subst (λ l. AllZip (IsCounted c.in-Some.field-0.tally h) l mid) c.deref_mut.ensures.value c.deal_counts.ensures.dealt in
    let long : length mid ≡ passes.len = zip_length (IsCounted c.in-Some.field-0.tally h) before mid counted ∙ sym passes.ok.0 in
    let here : slice_get mid i ≡ Some pass = subst (λ l. slice_get l i ≡ Some pass) (c.deref_mut-2.ensures.value ∙ with_items_is passes mid long) at in
    let was = zip_at (IsCounted c.in-Some.field-0.tally h) before mid i pass counted here in
    let places = (c.requires.ready.places i was.0 was.1).seats in
    let same : length pass.seats.items ≡ length was.0.seats.items = ap (λ l. length l.items) was.2.seats in
    let low = c.requires.ready.heap in
    let slots = c.args.self.now.slots.ok.0 in
    omega (arith, places, same, low, slots, c.len-heap.ensures)

pub returns : goal.returns
returns c = record {
  settled = λ K n rule books is.
      let h : ℕ = c.len-heap.result in
      let builder = c.args.self.now in
      let passes = builder.passes in
      let before : List Pass = passes.items in
      let mid : List Pass = c.deal_counts.new.passes in
      let after : List Pass = c.deal_seats.new.passes in
      let kept : LockedHeap = record { book = c.args.book; total = c.deal_counts.new.total } in
      let counted : AllZip (IsCounted c.in-Some.field-0.tally h) before mid = subst (λ l. AllZip (IsCounted c.in-Some.field-0.tally h) l mid) c.deref_mut.ensures.value c.deal_counts.ensures.dealt in
      let long : length mid ≡ passes.len = zip_length (IsCounted c.in-Some.field-0.tally h) before mid counted ∙ sym passes.ok.0 in
      let middle : c.deref_mut-2.result.now ≡ mid = c.deref_mut-2.ensures.value ∙ with_items_is passes mid long in
      let seated : AllZip (IsSeated c.fill-lock.result.0 (Some kept) h) mid after =
      subst (λ l. AllZip (IsSeated c.fill-lock.result.0 (Some kept) h) l after) middle
      (subst (λ o. AllZip (IsSeated c.fill-lock.result.0 o h) c.deref_mut-2.result.now after) c.fill-lock.ensures.seen c.deal_seats.ensures.dealt) in
      let last : length after ≡ passes.len = zip_length (IsSeated c.fill-lock.result.0 (Some kept) h) mid after seated ∙ long in
      let given : (with_items (with_items passes mid) after).items ≡ after = with_items_is (with_items passes mid) after last in
      let place : h ≡ length builder.slots.items = c.len-heap.ensures ∙ builder.slots.ok.0 in
      let low = c.requires.ready.heap in
      let heaps = is.heaps_are in
      let many = is.settled.passes_are in
      let few = c.requires.ready.passes in
      let zero : total_of c.in-Some.field-0.total ≡ 0 = c.in-Some.field-0.zero in
      let parts : kept_of c.in-Some.field-0.total ≡ ALL_PARTS = c.in-Some.field-0.parts in
      let total : total_of c.deal_counts.new.total ≡ total_of c.in-Some.field-0.total = c.deal_counts.ensures.total.1 in
      let dealt = c.deal_counts.ensures.kept in
      let number : length c.deref_mut.result.now ≡ length before = ap length c.deref_mut.ensures.value in
      let size : c.len.result ≡ length before = c.len.ensures ∙ passes.ok.0 in
      let opened = c.count-opening.ensures.same in
      let heap_is = c.requires.book.heap_is in
      let left : length builder.empty_slots.items ≡ length c.pop.new.self.items + 1 = let old = builder.empty_slots.ok.0 in let new = c.pop.new.self.ok.0 in let one = c.in-Some.ensures.cases in omega (arith, old, new, one) in
      settled_next K n rule books builder _ _ kept mid is left c.push_reserved.ensures.items c.push_reserved.ensures.capacity refl refl (omega (arith, low, heaps))
      (record {
        heap_is = omega (arith, place);
        heaps_are = is.heaps_are;
        rule_is = is.rule_is;
        opening = opened;
        spare = omega (arith, many, few, size);
      })
      (record {
        heap = omega (arith, heap_is, place);
        heaps = c.requires.book.heaps_are;
        rule = c.requires.book.rule_is;
        table = c.deal_counts.ensures.own;
        parts = omega (arith, dealt, parts, number, size, few);
        count = omega (arith, opened, total, zero);
      })
      (subst (λ k. AllZip (IsCounted c.in-Some.field-0.tally k) before mid) place counted)
      (subst (λ l. AllZip (IsSeated c.fill-lock.result.0 (Some kept) (length builder.slots.items)) mid l) (sym given)
      (subst (λ k. AllZip (IsSeated c.fill-lock.result.0 (Some kept) k) mid after) place seated));
}
