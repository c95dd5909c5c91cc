use Rattle.std.proofs.Common.{ap, arith, length, subst, sym, ◌∙◌}
use Rattle.std.proofs.lemmas.List.Elements.{All-cons, All-tail}
use Rattle.std.proofs.lemmas.List.Sums.{sum_by-cons}
use Rattle.std.proofs.lemmas.Option.{same_Some, slice_get_read}
use Rattle.std.specs.Prelude.{All, IfSome, List, Some, [], refl, sum, ℕ, ◌+◌, ◌<◌, ◌≡◌, ◌≤◌, ◌∷◌}
use Rattle.zq_spread.proofs.Companies.{all_back, all_same, back_but, back_but_same, follows_of, held_of, same_but_then, same_itself, same_sum, tallied_follows}
use Rattle.zq_spread.proofs.ManyHeaps.{seats_of}
use Rattle.zq_spread.proofs.Places.{zip_length}
use Rattle.zq_spread.proofs.Seats.{seen_later}
use Rattle.zq_spread.proofs.LeftAsGiven.{held_once, none_held, turn_of}
use Rattle.zq_spread.proofs.site.Site.tally.Goals as goal
use Rattle.zq_spread.specs.Companies.{HasSeenAll, IsCountBack, IsSeenByFirst, opening_at, opening_of, steps_of_all}
use Rattle.zq_spread.specs.LockedHeaps.{Follows, follows_further}
use Rattle.zq_spread.specs.Passes.{IsPassOf, IsSeatOf, IsSeenLater, seen_at, steps_at}
use Rattle.zq_spread.specs.HeapSlots.{IsOf}
use Rattle.zq_spread.specs.Turns.{HasTurn, IsLeftAsGiven, turns_at}
use Rattle.zq_spread.specs.Worn.{reached_at}
use Rattle.zq_spread.specs.declared.locked_heap.LockedHeap.{LockedHeap}
use Rattle.zq_spread.specs.declared.pass.Pass.{Pass}
use Rattle.zq_spread.specs.declared.heap_slot.HeapSlot.{HeapSlot}
use Rattle.zq_spread.specs.declared.site.Site.{Site}
use Rattle.zq_tally.specs.Words.{IsSameTotal, kept_of, parts_of, passes_of, total_of, total_table}
use Rattle.zq_tally.specs.Limits.{ALL_PARTS}
use Rattle.zq_ticketlock.specs.Steps.{FollowsSeen}
use Rattle.zq_ticketlock.specs.Limits.{last_ticket}
use Rattle.zq_ticketlock.specs.Seats.{given, held_logged, logged}

-- the first of all passes is one of the site's
first_of : (site : Site) (first : Pass) (others passes : List Pass) → passes ≡ first ∷ others → All (IsPassOf site) passes → IsPassOf site first
first_of site first others passes cut each = subst (All (IsPassOf site)) cut each 0 first (omega arith)

pub take_seat-seat-requires-clause-seats : goal.take_seat-seat-requires-clause-seats
take_seat-seat-requires-clause-seats g c =
    seats_of c.args.self.now (c.from-heap.result ∷ []) c.in-Some.first.now (first_of c.args.self.now c.in-Some.first.now c.in-Some.others.now c.args.passes.now c.in-Some.ensures.cases.0 c.requires.all.each)

pub gather-requires-clause-own : goal.gather-requires-clause-own
gather-requires-clause-own g c =
    let slot : HeapSlot = c.index-slot.result.now in
    let within : c.from-heap.result < length c.args.self.now.slots.items = subst (λ k. k < length c.args.self.now.slots.items) (sym c.from-heap.ensures) c.requires.heap in
    let at = slice_get_read c.args.self.now.slots.items (length c.args.self.now.slots.items) c.from-heap.result slot refl within c.index-slot.ensures in
    let held = held_of slot c.take_seat-seat.result c.in-Ok.held.value c.take_seat-seat.ensures.some (c.take_seat-seat.ensures.seat slot at) c.in-Ok.ensures.follows in
    ap (λ (v : LockedHeap). total_table v.total) c.value_mut.ensures.value ∙ held.3.table

pub gather-requires-clause-first : goal.gather-requires-clause-first
gather-requires-clause-first g c =
    let slot : HeapSlot = c.index-slot.result.now in
    let within : c.from-heap.result < length c.args.self.now.slots.items = subst (λ k. k < length c.args.self.now.slots.items) (sym c.from-heap.ensures) c.requires.heap in
    let at = slice_get_read c.args.self.now.slots.items (length c.args.self.now.slots.items) c.from-heap.result slot refl within c.index-slot.ensures in
    (c.take_seat-seat.ensures.pass (first_of c.args.self.now c.in-Some.first.now c.in-Some.others.now c.args.passes.now c.in-Some.ensures.cases.0 c.requires.all.each)).count c.from-heap.result slot at

pub gather-requires-clause-others : goal.gather-requires-clause-others
gather-requires-clause-others g c = λ k d low.
    let slot : HeapSlot = c.index-slot.result.now in
    let within : c.from-heap.result < length c.args.self.now.slots.items = subst (λ k. k < length c.args.self.now.slots.items) (sym c.from-heap.ensures) c.requires.heap in
    let at = slice_get_read c.args.self.now.slots.items (length c.args.self.now.slots.items) c.from-heap.result slot refl within c.index-slot.ensures in
    let first : Pass = c.in-Some.first.now in
    let others : List Pass = c.in-Some.others.now in
    let all : All (IsPassOf c.args.self.now) (first ∷ others) = subst (All (IsPassOf c.args.self.now)) c.in-Some.ensures.cases.0 c.requires.all.each in
    (All-tail (IsPassOf c.args.self.now) first others all k d low).count c.from-heap.result slot at

pub gather-requires-clause-all : goal.gather-requires-clause-all
gather-requires-clause-all g c =
    let slot : HeapSlot = c.index-slot.result.now in
    let value : LockedHeap = c.in-Ok.held.value in
    let others : List Pass = c.in-Some.others.now in
    let within : c.from-heap.result < length c.args.self.now.slots.items = subst (λ k. k < length c.args.self.now.slots.items) (sym c.from-heap.ensures) c.requires.heap in
    let at = slice_get_read c.args.self.now.slots.items (length c.args.self.now.slots.items) c.from-heap.result slot refl within c.index-slot.ensures in
    let held = held_of slot c.take_seat-seat.result value c.take_seat-seat.ensures.some (c.take_seat-seat.ensures.seat slot at) c.in-Ok.ensures.follows in
    let spare : length c.args.passes.now + slot.spare ≡ ALL_PARTS = c.requires.all.all c.from-heap.result slot at in
    let parts : kept_of value.total ≡ slot.spare = held.3.parts in
    let nobody : length (passes_of value.total) ≡ 0 = ap length c.in-Ok.ensures.holds in
    let long : length others + 1 ≡ length c.args.passes.now = c.in-Some.ensures.cases.1 in
    subst (λ (v : LockedHeap). 1 + length others + parts_of v.total ≡ ALL_PARTS) (sym c.value_mut.ensures.value) (omega (arith, spare, parts, nobody, long))

pub unlock-seat-requires-clause-own : goal.unlock-seat-requires-clause-own
unlock-seat-requires-clause-own g c =
    let slot : HeapSlot = c.index-slot.result.now in
    let within : c.from-heap.result < length c.args.self.now.slots.items = subst (λ k. k < length c.args.self.now.slots.items) (sym c.from-heap.ensures) c.requires.heap in
    let at = slice_get_read c.args.self.now.slots.items (length c.args.self.now.slots.items) c.from-heap.result slot refl within c.index-slot.ensures in
    c.in-Ok.ensures.lock ∙ (c.take_seat-seat.ensures.seat slot at).0

pub put_seat-requires-clause-number : goal.put_seat-requires-clause-number
put_seat-requires-clause-number g c =
    let slot : HeapSlot = c.index-slot.result.now in
    let within : c.from-heap.result < length c.args.self.now.slots.items = subst (λ k. k < length c.args.self.now.slots.items) (sym c.from-heap.ensures) c.requires.heap in
    let at = slice_get_read c.args.self.now.slots.items (length c.args.self.now.slots.items) c.from-heap.result slot refl within c.index-slot.ensures in
    (back_but c.args.self.now c.from-heap.result slot at c.take_seat-seat.new.pass c.gather.new.first c.gather.ensures.first (c.take_seat-seat.ensures.pass (first_of c.args.self.now c.in-Some.first.now c.in-Some.others.now c.args.passes.now c.in-Some.ensures.cases.0 c.requires.all.each))).seats

pub put_seat-requires-clause-seat : goal.put_seat-requires-clause-seat
put_seat-requires-clause-seat g c = λ other at_other.
    let slot : HeapSlot = c.index-slot.result.now in
    let value : LockedHeap = c.in-Ok.held.value in
    let now : LockedHeap = record { book = c.value_mut.result.now.book; total = c.gather.new.total } in
    let within : c.from-heap.result < length c.args.self.now.slots.items = subst (λ k. k < length c.args.self.now.slots.items) (sym c.from-heap.ensures) c.requires.heap in
    let at = slice_get_read c.args.self.now.slots.items (length c.args.self.now.slots.items) c.from-heap.result slot refl within c.index-slot.ensures in
    let seat = c.take_seat-seat.ensures.seat slot at in
    let held = held_of slot c.take_seat-seat.result value c.take_seat-seat.ensures.some seat c.in-Ok.ensures.follows in
    let total : IsSameTotal now.total value.total = subst (λ (v : LockedHeap). IsSameTotal now.total v.total) c.value_mut.ensures.value c.gather.ensures.stays in
    let later : Follows now value = tallied_follows now value (ap (λ (v : LockedHeap). v.book) c.value_mut.ensures.value) total in
    let fits : IsSeatOf slot (Some (Some c.unlock-seat.result)) =
    (c.unlock-seat.ensures.lock ∙ c.in-Ok.ensures.lock ∙ seat.0, subst (λ o. IfSome o (IsOf slot)) (sym c.unlock-seat.ensures.seen) (follows_of slot now value later held.3)) in
    subst (λ r. IsSeatOf r (Some (Some c.unlock-seat.result))) (same_Some slot other (sym at ∙ at_other)) fits

pub returns-in-Ok-clause-all : goal.returns-in-Ok-clause-all
returns-in-Ok-clause-all g c =
    let slot : HeapSlot = c.index-slot.result.now in
    let first : Pass = c.in-Some.first.now in
    let others : List Pass = c.in-Some.others.now in
    let back : List Pass = c.gather.new.others in
    let within : c.from-heap.result < length c.args.self.now.slots.items = subst (λ k. k < length c.args.self.now.slots.items) (sym c.from-heap.ensures) c.requires.heap in
    let at = slice_get_read c.args.self.now.slots.items (length c.args.self.now.slots.items) c.from-heap.result slot refl within c.index-slot.ensures in
    let all : All (IsPassOf c.args.self.now) (first ∷ others) = subst (All (IsPassOf c.args.self.now)) c.in-Some.ensures.cases.0 c.requires.all.each in
    let long : length others + 1 ≡ length c.args.passes.now = c.in-Some.ensures.cases.1 in
    let same : length back ≡ length others = zip_length (IsCountBack slot c.from-heap.result) others back c.gather.ensures.others in
    record {
      some = omega arith;
      each = All-cons (IsPassOf c.args.self.now) c.put_seat.new.pass back (c.put_seat.ensures.pass (back_but c.args.self.now c.from-heap.result slot at c.take_seat-seat.new.pass c.gather.new.first c.gather.ensures.first (c.take_seat-seat.ensures.pass (first_of c.args.self.now c.in-Some.first.now c.in-Some.others.now c.args.passes.now c.in-Some.ensures.cases.0 c.requires.all.each))))
          (all_back c.args.self.now c.from-heap.result slot at others back c.gather.ensures.others (All-tail (IsPassOf c.args.self.now) first others all));
      all = λ k r at_k. let spare : length c.args.passes.now + r.spare ≡ ALL_PARTS = c.requires.all.all k r at_k in omega (arith, spare, long, same);
    }

pub returns-in-Ok-clause-stays : goal.returns-in-Ok-clause-stays
returns-in-Ok-clause-stays g c =
    let h : ℕ = c.from-heap.result in
    let slot : HeapSlot = c.index-slot.result.now in
    let value : LockedHeap = c.in-Ok.held.value in
    let now : LockedHeap = record { book = c.value_mut.result.now.book; total = c.gather.new.total } in
    let first : Pass = c.in-Some.first.now in
    let others : List Pass = c.in-Some.others.now in
    let back : List Pass = c.gather.new.others in
    let within : h < length c.args.self.now.slots.items = subst (λ k. k < length c.args.self.now.slots.items) (sym c.from-heap.ensures) c.requires.heap in
    let at = slice_get_read c.args.self.now.slots.items (length c.args.self.now.slots.items) h slot refl within c.index-slot.ensures in
    let held = held_of slot c.take_seat-seat.result value c.take_seat-seat.ensures.some (c.take_seat-seat.ensures.seat slot at) c.in-Ok.ensures.follows in
    let total : IsSameTotal now.total value.total = subst (λ (v : LockedHeap). IsSameTotal now.total v.total) c.value_mut.ensures.value c.gather.ensures.stays in
    let later : Follows now value = tallied_follows now value (ap (λ (v : LockedHeap). v.book) c.value_mut.ensures.value) total in
    let seen_now : seen_at c.put_seat.new.pass h ≡ Some now = c.put_seat.ensures.seen ∙ c.unlock-seat.ensures.seen in
    let seen_was : seen_at first h ≡ Some held.0 = sym c.take_seat-seat.ensures.seen ∙ held.1 in
    let follow : IsSeenLater (seen_at c.put_seat.new.pass h) (seen_at first h) =
    subst (λ o. IsSeenLater o (seen_at first h)) (sym seen_now) (subst (λ o. FollowsSeen Follows now o) (sym seen_was) (follows_further now value held.0 later held.2)) in
    let held_here = c.in-Ok.held in
    let turn : HasTurn value now (logged c.unlock-seat.result) (held_logged held_here) =
    turn_of (given held_here) value now held_here.ticket (logged c.unlock-seat.result) (held_logged held_here) c.in-Ok.ensures.given c.unlock-seat.ensures.logged in
    let before : held_logged held_here ≡ turns_at first h = c.in-Ok.ensures.logged ∙ c.take_seat-seat.ensures.turns in
    let left : IsLeftAsGiven (turns_at c.put_seat.new.pass h) (turns_at first h) =
    held_once value now (turns_at c.put_seat.new.pass h) (turns_at first h)
    (subst (λ l. HasTurn value now (turns_at c.put_seat.new.pass h) l) before (subst (λ l. HasTurn value now l (held_logged held_here)) (sym c.put_seat.ensures.turns) turn))
    (ap (λ (v : LockedHeap). v.book) c.value_mut.ensures.value) in
    let there : IsSeenByFirst h (first ∷ others) (c.put_seat.new.pass ∷ back) = (
      same_but_then h first c.gather.new.first c.put_seat.new.pass
          (same_but_then h first c.take_seat-seat.new.pass c.gather.new.first c.take_seat-seat.ensures.stays (back_but_same slot h c.take_seat-seat.new.pass c.gather.new.first c.gather.ensures.first))
          c.put_seat.ensures.stays,
      follow,
      all_same slot h others back c.gather.ensures.others,
      left,
    ) in
    subst (λ k. IsSeenByFirst k c.args.passes.now (c.put_seat.new.pass ∷ back)) c.from-heap.ensures (subst (λ l. IsSeenByFirst h l (c.put_seat.new.pass ∷ back)) (sym c.in-Some.ensures.cases.0) there)

pub returns-in-Ok-clause-sum : goal.returns-in-Ok-clause-sum
returns-in-Ok-clause-sum g c =
    let h : ℕ = c.from-heap.result in
    let site = c.args.self.now in
    let slot : HeapSlot = c.index-slot.result.now in
    let value : LockedHeap = c.in-Ok.held.value in
    let now : LockedHeap = record { book = c.value_mut.result.now.book; total = c.gather.new.total } in
    let others : List Pass = c.in-Some.others.now in
    let back : List Pass = c.gather.new.others in
    let first : Pass = c.put_seat.new.pass in
    let within : h < length site.slots.items = subst (λ k. k < length site.slots.items) (sym c.from-heap.ensures) c.requires.heap in
    let at = slice_get_read site.slots.items (length site.slots.items) h slot refl within c.index-slot.ensures in
    let held = held_of slot c.take_seat-seat.result value c.take_seat-seat.ensures.some (c.take_seat-seat.ensures.seat slot at) c.in-Ok.ensures.follows in
    let total : IsSameTotal now.total value.total = subst (λ (v : LockedHeap). IsSameTotal now.total v.total) c.value_mut.ensures.value c.gather.ensures.stays in
    let later : Follows now value = tallied_follows now value (ap (λ (v : LockedHeap). v.book) c.value_mut.ensures.value) total in
    let is = follows_of slot now value later held.3 in
    let count : now.book.count ≡ slot.opening + total_of now.total = is.count in
    let opening : opening_at site h ≡ slot.opening = ap opening_of at in
    let same : total_of now.total ≡ total_of value.total = total.1 in
    let gathered : total_of value.total ≡ steps_at c.take_seat-seat.new.pass h + steps_of_all h others + sum (passes_of value.total) =
    subst (λ (v : LockedHeap). total_of v.total ≡ steps_at c.take_seat-seat.new.pass h + steps_of_all h others + sum (passes_of v.total)) c.value_mut.ensures.value c.gather.ensures.sum in
    let nobody : sum (passes_of value.total) ≡ 0 = ap sum c.in-Ok.ensures.holds in
    let mine : steps_at first h ≡ steps_at c.take_seat-seat.new.pass h = c.put_seat.ensures.stays.steps h ∙ c.gather.ensures.first.steps h in
    let theirs : steps_of_all h back ≡ steps_of_all h others = same_sum h others back (all_same slot h others back c.gather.ensures.others) in
    let all : steps_of_all h (first ∷ back) ≡ steps_at first h + steps_of_all h back = sum_by-cons (λ pass. steps_at pass h) first back in
    let there : HasSeenAll site h (first ∷ back) = (now, c.put_seat.ensures.seen ∙ c.unlock-seat.ensures.seen, omega (arith, count, opening, same, gathered, nobody, mine, theirs, all)) in
    subst (λ k. HasSeenAll site k (first ∷ back)) c.from-heap.ensures there

pub returns-in-Err-clause-all : goal.returns-in-Err-clause-all
returns-in-Err-clause-all g c =
    let first : Pass = c.in-Some.first.now in
    let others : List Pass = c.in-Some.others.now in
    let all : All (IsPassOf c.args.self.now) (first ∷ others) = subst (All (IsPassOf c.args.self.now)) c.in-Some.ensures.cases.0 c.requires.all.each in
    let long : length others + 1 ≡ length c.args.passes.now = c.in-Some.ensures.cases.1 in
    record {
      some = omega arith;
      each = All-cons (IsPassOf c.args.self.now) c.put_seat-in-Err.new.pass others (c.put_seat-in-Err.ensures.pass (c.take_seat-seat.ensures.pass (first_of c.args.self.now c.in-Some.first.now c.in-Some.others.now c.args.passes.now c.in-Some.ensures.cases.0 c.requires.all.each))) (All-tail (IsPassOf c.args.self.now) first others all);
      all = λ k r at_k. let spare : length c.args.passes.now + r.spare ≡ ALL_PARTS = c.requires.all.all k r at_k in omega (arith, spare, long);
    }

pub returns-in-Err-clause-stays : goal.returns-in-Err-clause-stays
returns-in-Err-clause-stays g c =
    let h : ℕ = c.from-heap.result in
    let first : Pass = c.in-Some.first.now in
    let others : List Pass = c.in-Some.others.now in
    let new : Pass = c.put_seat-in-Err.new.pass in
    let seen_is : seen_at new h ≡ seen_at first h = c.put_seat-in-Err.ensures.seen ∙ c.in-Err.ensures.worn.1 ∙ c.take_seat-seat.ensures.seen in
    let turns : turns_at new h ≡ turns_at first h = c.put_seat-in-Err.ensures.turns ∙ c.in-Err.ensures.worn_logged ∙ c.take_seat-seat.ensures.turns in
    let there : IsSeenByFirst h (first ∷ others) (new ∷ others) = (
      same_but_then h first c.take_seat-seat.new.pass new c.take_seat-seat.ensures.stays c.put_seat-in-Err.ensures.stays,
      subst (λ o. IsSeenLater o (seen_at first h)) (sym seen_is) (seen_later (seen_at first h)),
      same_itself others,
      subst (λ l. IsLeftAsGiven l (turns_at first h)) (sym turns) (none_held (turns_at first h)),
    ) in
    subst (λ k. IsSeenByFirst k c.args.passes.now (new ∷ others)) c.from-heap.ensures (subst (λ l. IsSeenByFirst h l (new ∷ others)) (sym c.in-Some.ensures.cases.0) there)

pub returns-in-Err-clause-worn : goal.returns-in-Err-clause-worn
returns-in-Err-clause-worn g c =
    let h : ℕ = c.from-heap.result in
    let new : Pass = c.put_seat-in-Err.new.pass in
    let last = c.in-Err.ensures.last in
    let found : last_ticket ≤ reached_at new h = subst (λ n. last_ticket ≤ n) (sym c.put_seat-in-Err.ensures.reached) last in
    subst (λ k. last_ticket ≤ reached_at new k) c.from-heap.ensures found
