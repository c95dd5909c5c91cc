-- Heaps that get their books one after the other, and the site that has them all.

use Rattle.std.proofs.Common.{ap, arith, get_or, inl, inr, subst, sym, ◌∙◌}
use Rattle.std.proofs.lemmas.Bool.{cases_lt}
use Rattle.std.proofs.lemmas.List.{length-set, length_push}
use Rattle.std.proofs.lemmas.Option.{slice_get-get_or, slice_get_past, slice_get_within}
use Rattle.std.specs.List.{AllZip}
use Rattle.std.specs.Prelude.{IfSome, List, Some, [], length, refl, slice_get, vec_capacity, ℕ, ◌++◌, ◌+◌, ◌<◌, ◌≡◌, ◌≤◌, ◌∷◌}
use Rattle.zq_dots.specs.Rule.{rule_of}
use Rattle.zq_dots.specs.declared.rule.Rule.{Rule}
use Rattle.zq_model.specs.Books.{Book}
use Rattle.zq_posheap.proofs.Lists.{slice_get-set_other, slice_get-set_same, there_is}
use Rattle.zq_spread.proofs.Places.{behind, zip_at, zip_length}
use Rattle.zq_spread.specs.Companies.{opening_of}
use Rattle.zq_spread.specs.SiteBuilders.{AreSettled, HasPlaces, IsCounted, IsGround, IsNewIn, IsReady, IsSlotOver, IsSeated}
use Rattle.zq_spread.specs.Makers.{IsMade}
use Rattle.zq_spread.specs.Passes.{IsCountOf, IsPassOf, IsSeatOf, seen_in, steps_at, steps_in}
use Rattle.zq_spread.specs.HeapSlots.{IsOf}
use Rattle.zq_spread.specs.declared.site_builder.SiteBuilder.{SiteBuilder}
use Rattle.zq_spread.specs.declared.locked_heap.LockedHeap.{LockedHeap}
use Rattle.zq_spread.specs.declared.pass.Pass.{Pass}
use Rattle.zq_spread.specs.declared.heap_slot.HeapSlot.{HeapSlot}
use Rattle.zq_spread.specs.declared.site.Site.{Site}
use Rattle.zq_tally.specs.declared.tally.Tally.{Tally}
use Rattle.zq_ticketlock.specs.declared.lock.TicketLock.{TicketLock}

-- a pass that has the same seat and count there is as new there
stays_new : (slot : HeapSlot) (h : ℕ) (book : Book) (before after : Pass) → slice_get after.seats.items h ≡ slice_get before.seats.items h →
    slice_get after.counts.items h ≡ slice_get before.counts.items h → IsNewIn slot h book before → IsNewIn slot h book after
stays_new slot h book before after seats counts new = record {
  seat = subst (IsSeatOf slot) (sym seats) new.seat;
  count = subst (IsCountOf slot) (sym counts) new.count;
  seen = (new.seen.0, ap seen_in seats ∙ new.seen.1, new.seen.2);
  none = ap steps_in counts ∙ new.none;
}

-- a pass that was given a count and a seat
given_places : (K h : ℕ) (t : Tally) (lock : TicketLock LockedHeap) (kept : LockedHeap) (before mid after : Pass) → IsCounted t h before mid → IsSeated lock (Some kept) h mid after →
    HasPlaces K before → HasPlaces K after
given_places K h t lock kept before mid after counted seated has = record {
  seats = ap length seated.seats ∙ length-set mid.seats.items h (Some seated.seat) ∙ ap (λ l. length l.items) counted.seats ∙ has.seats;
  counts = ap (λ l. length l.items) seated.counts ∙ ap length counted.counts ∙ length-set before.counts.items h (Some counted.count) ∙ has.counts;
  stamp = seated.stamp ∙ counted.stamp ∙ has.stamp;
}

given_new : (K h : ℕ) (slot : HeapSlot) (kept : LockedHeap) (before mid after : Pass) → h < K → IsCounted slot.tally h before mid → IsSeated slot.lock (Some kept) h mid after →
    IsOf slot kept → HasPlaces K before → IsNewIn slot h kept.book after
given_new K h slot kept before mid after within counted seated of has =
    let seats_long : length mid.seats.items ≡ K = ap (λ l. length l.items) counted.seats ∙ has.seats in
    let seat : slice_get after.seats.items h ≡ Some (Some seated.seat) =
    ap (λ l. slice_get l h) seated.seats ∙ slice_get-set_same mid.seats.items h (Some seated.seat) (subst (λ n. h < n) (sym seats_long) within) in
    let count : slice_get after.counts.items h ≡ Some (Some counted.count) =
    ap (λ l. slice_get l.items h) seated.counts ∙ ap (λ l. slice_get l h) counted.counts
    ∙ slice_get-set_same before.counts.items h (Some counted.count) (subst (λ n. h < n) (sym has.counts) within) in
    record {
      seat = subst (IsSeatOf slot) (sym seat) (seated.lock_is, subst (λ o. IfSome o (IsOf slot)) (sym seated.seen_is) of);
      count = subst (IsCountOf slot) (sym count) counted.table;
      seen = (kept, ap seen_in seat ∙ seated.seen_is, refl);
      none = ap steps_in count ∙ counted.none;
    }

given_others : (h k : ℕ) (t : Tally) (lock : TicketLock LockedHeap) (kept : LockedHeap) (slot : HeapSlot) (book : Book) (before mid after : Pass) → (k ≡ h → ⊥) → IsCounted t h before mid →
    IsSeated lock (Some kept) h mid after → IsNewIn slot k book before → IsNewIn slot k book after
given_others h k t lock kept slot book before mid after other counted seated new =
    stays_new slot k book before after
    (ap (λ l. slice_get l k) seated.seats ∙ slice_get-set_other mid.seats.items h k (Some seated.seat) other ∙ ap (λ l. slice_get l.items k) counted.seats)
    (ap (λ l. slice_get l.items k) seated.counts ∙ ap (λ l. slice_get l k) counted.counts ∙ slice_get-set_other before.counts.items h k (Some counted.count) other) new

-- one heap more has its book
pub settled_more : (K n : ℕ) (rule : Rule) (books : List Book) (slots : List HeapSlot) (slot : HeapSlot) (kept : LockedHeap) (before mid after : List Pass) → AreSettled K n rule books slots before →
    length slots < K → IsSlotOver K n rule (length slots) kept.book slot → IsOf slot kept → AllZip (IsCounted slot.tally (length slots)) before mid →
    AllZip (IsSeated slot.lock (Some kept) (length slots)) mid after → AreSettled K n rule (books ++ kept.book ∷ []) (slots ++ slot ∷ []) after
settled_more K n rule books slots slot kept before mid after is within over of counted seated =
    let h : ℕ = length slots in
    let was : (i : ℕ) (pass : Pass) → slice_get after i ≡ Some pass → (m : Pass) × (p : Pass) × (slice_get before i ≡ Some p) × IsCounted slot.tally h p m × IsSeated slot.lock (Some kept) h m pass =
    λ i pass at.
    let m = zip_at (IsSeated slot.lock (Some kept) h) mid after i pass seated at in
    let p = zip_at (IsCounted slot.tally h) before mid i m.0 counted m.1 in
    (m.0, p.0, p.1, p.2, m.2) in
    record {
      number = length_push slots slot ∙ ap (λ k. k + 1) is.number ∙ sym (length_push books kept.book);
      passes_are = zip_length (IsSeated slot.lock (Some kept) h) mid after seated ∙ zip_length (IsCounted slot.tally h) before mid counted ∙ is.passes_are;
      places = λ i pass at. let p = was i pass at in given_places K h slot.tally slot.lock kept p.1 p.0 pass p.3 p.4 (is.places i p.1 p.2);
      slot = λ k r b at_r at_b. elim (behind slots slot r k at_r) [
        | inl there ↦ is.slot k r b there (before_end k r b there at_b)
        | inr last ↦ subst (λ r'. IsSlotOver K n rule k b r') last.1 (subst (λ b'. IsSlotOver K n rule k b' slot) (at_end k b last.0 at_b) (subst (λ j. IsSlotOver K n rule j kept.book slot) (sym last.0) over))
      ];
      new = λ i k pass r b at at_r at_b. let p = was i pass at in elim (behind slots slot r k at_r) [
        | inl there ↦ (
            let apart : k ≡ h → ⊥ = λ same. let low = slice_get_within slots k r there in absurd (omega (arith, same, low)) in
            given_others h k slot.tally slot.lock kept r b p.1 p.0 pass apart p.3 p.4 (is.new i k p.1 r b p.2 there (before_end k r b there at_b)))
        | inr last ↦ subst (λ r'. IsNewIn r' k b pass) last.1 (subst (λ b'. IsNewIn slot k b' pass) (at_end k b last.0 at_b)
            (subst (λ j. IsNewIn slot j kept.book pass) (sym last.0) (given_new K h slot kept p.1 p.0 pass within p.3 p.4 of (is.places i p.1 p.2))))
      ];
    }
  where
    -- a book at a place where a slot was, and the book at the end
    before_end : (k : ℕ) (r : HeapSlot) (b : Book) → slice_get slots k ≡ Some r → slice_get (books ++ kept.book ∷ []) k ≡ Some b → slice_get books k ≡ Some b
    before_end k r b there at_b = elim (behind books kept.book b k at_b) [
      | inl here ↦ here
      | inr last ↦ (let low = slice_get_within slots k r there in let same = is.number in absurd (omega (arith, last.0, low, same)))
    ]

    at_end : (k : ℕ) (b : Book) → k ≡ length slots → slice_get (books ++ kept.book ∷ []) k ≡ Some b → kept.book ≡ b
    at_end k b end at_b = elim (behind books kept.book b k at_b) [
      | inl here ↦ (let low = slice_get_within books k b here in let same = is.number in absurd (omega (arith, end, low, same)))
      | inr last ↦ last.1
    ]

-- a site whose heaps all have their books
pub made : (number n : ℕ) (books : List Book) (site : Site) (passes : List Pass) → site.number ≡ number → 1 ≤ n →
    ((h : ℕ) (book : Book) → slice_get books h ≡ Some book → rule_of site.rule ≡ book.rule) → AreSettled (length books) n site.rule books site.slots.items passes → IsMade number books n site passes
made number n books site passes named some ruled is =
    let slots = site.slots.items in
    let book_at : (h : ℕ) (slot : HeapSlot) → slice_get slots h ≡ Some slot → (book : Book) × (slice_get books h ≡ Some book) =
    λ h slot at. there_is books h (let low = slice_get_within slots h slot at in let same = is.number in omega (arith, low, same)) in
    let slot_at : (h : ℕ) (book : Book) → slice_get books h ≡ Some book → (slot : HeapSlot) × (slice_get slots h ≡ Some slot) =
    λ h book at. there_is slots h (let low = slice_get_within books h book at in let same = is.number in omega (arith, low, same)) in
    let new_at : (i h : ℕ) (pass : Pass) (slot : HeapSlot) → slice_get passes i ≡ Some pass → slice_get slots h ≡ Some slot → (book : Book) × IsNewIn slot h book pass =
    λ i h pass slot at at_slot. let b = book_at h slot at_slot in (b.0, is.new i h pass slot b.0 at at_slot b.1) in
    let steps_of : (i : ℕ) (pass : Pass) → slice_get passes i ≡ Some pass → (h : ℕ) → steps_at pass h ≡ 0 =
    λ i pass at h. elim (cases_lt h (length slots)) [
      | inl low ↦ (let slot = there_is slots h low in (new_at i h pass slot.0 at slot.1).1.none)
      | inr high ↦ ap steps_in (slice_get_past pass.counts.items h (let same = is.number in let long = (is.places i pass at).counts in omega (arith, high, same, long)))
    ] in
    let pass_of : (i : ℕ) (pass : Pass) → slice_get passes i ≡ Some pass → IsPassOf site pass =
    λ i pass at. record {
      seats = (is.places i pass at).seats ∙ sym is.number;
      counts = (is.places i pass at).counts ∙ sym is.number;
      slots = λ h slot at_slot. let b = book_at h slot at_slot in let over = is.slot h slot b.0 at_slot b.1 in (over.heap_is, over.heaps_are ∙ sym is.number, over.rule_is);
      seat = λ h slot at_slot. (new_at i h pass slot at at_slot).1.seat;
      count = λ h slot at_slot. (new_at i h pass slot at at_slot).1.count;
      stamp = let zero = (is.places i pass at).stamp in omega (arith, zero);
    } in
    record {
      number_is = named;
      heaps = is.number;
      rule = ruled;
      opening = λ h book at. let slot = slot_at h book at in ap opening_of slot.1 ∙ (is.slot h slot.0 book slot.1 at).opening;
      passes_are = is.passes_are;
      all = record {
        some = let same = is.passes_are in omega (arith, some, same);
        each = λ k d low. pass_of k (get_or passes k d) (slice_get-get_or passes k d low);
        all = λ h slot at. let b = book_at h slot at in ap (λ k. k + slot.spare) is.passes_are ∙ (is.slot h slot b.0 at b.1).spare;
      };
      new = λ i pass at. record {
        stamp = (is.places i pass at).stamp;
        steps = steps_of i pass at;
        seen = λ h book at_book. let slot = slot_at h book at_book in (is.new i h pass slot.0 book at slot.1 at_book).seen;
      };
    }

-- the builder is ready for the next book
pub ready : (K n : ℕ) (rule : Rule) (books : List Book) (builder : SiteBuilder) → IsGround K n rule books builder → length books < K → n ≤ 128 → IsReady builder
ready K n rule books builder is low few =
    let number = is.settled.number in
    let empty_slots = is.empty_slots in
    let room = is.room in
    let heaps = is.heaps_are in
    let many = is.settled.passes_are in
    record {
      empty_slot = omega (arith, low, number, empty_slots);
      heap = omega (arith, low, number, heaps);
      room = omega (arith, low, number, room);
      passes = omega (arith, many, few);
      places = λ i pass at. subst (λ k. HasPlaces k pass) (sym is.heaps_are) (is.settled.places i pass at);
    }

-- the builder where one heap more has its book
pub settled_next : (K n : ℕ) (rule : Rule) (books : List Book) (builder new : SiteBuilder) (slot : HeapSlot) (kept : LockedHeap) (mid : List Pass) → IsGround K n rule books builder →
    length builder.empty_slots.items ≡ length new.empty_slots.items + 1 → new.slots.items ≡ builder.slots.items ++ slot ∷ [] → vec_capacity new.slots ≡ vec_capacity builder.slots →
    new.heaps ≡ builder.heaps → new.rule ≡ builder.rule → length builder.slots.items < K → IsSlotOver K n rule (length builder.slots.items) kept.book slot → IsOf slot kept →
    AllZip (IsCounted slot.tally (length builder.slots.items)) builder.passes.items mid → AllZip (IsSeated slot.lock (Some kept) (length builder.slots.items)) mid new.passes.items →
    IsGround K n rule (books ++ kept.book ∷ []) new
settled_next K n rule books builder new slot kept mid is empty_slots slots capacity heaps ruled low over of counted seated =
    let before = is.empty_slots in
    let cap = is.room in
    let long : length new.slots.items ≡ length builder.slots.items + 1 = ap length slots ∙ length_push builder.slots.items slot in
    record {
      empty_slots = omega (arith, before, empty_slots, long);
      room = omega (arith, cap, capacity);
      heaps_are = heaps ∙ is.heaps_are;
      rule_is = ruled ∙ is.rule_is;
      settled = subst (λ l. AreSettled K n rule (books ++ kept.book ∷ []) l new.passes.items) (sym slots)
          (settled_more K n rule books builder.slots.items slot kept builder.passes.items mid new.passes.items is.settled low over of counted seated);
    }
