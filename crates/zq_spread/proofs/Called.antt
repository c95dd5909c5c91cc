-- Commands over all heaps of a site, and over two that are drawn.

use Rattle.std.proofs.Common.{ap, arith, inl, inr, subst, suc, sym, zero, ◌∙◌}
use Rattle.std.proofs.lemmas.Bool.{cases_lt}
use Rattle.std.proofs.lemmas.Option.{slice_get_past, slice_get_within}
use Rattle.std.specs.List.{range_with_len}
use Rattle.std.specs.Prelude.{Bool, IsSome, List, None, Option, Some, [], length, map, max, refl, slice_get, take, true, ℕ, ◌&&◌, ◌+◌, ◌<◌, ◌∷◌, ◌≡◌, ◌≤◌, ◌⊎◌}
use Rattle.zq_commands.proofs.SitePlaces.{site_homes}
use Rattle.zq_commands.specs.Commands.{HasBooks}
use Rattle.zq_commands.specs.SiteBooks.{AreOfSite}
use Rattle.zq_commands.specs.VecBooks.{lending_of, rule_in}
use Rattle.zq_dots.specs.Rule.{rule_of}
use Rattle.zq_model.specs.Books.{Book, Step}
use Rattle.zq_model.proofs.Maps.{in_map}
use Rattle.zq_model.proofs.Membership.{in_or_not, in_range_with_len}
use Rattle.zq_model.specs.Bounded.{IsBounded}
use Rattle.zq_model.specs.Queue.{queue_of}
use Rattle.zq_model.specs.Rule.{Rule}
use Rattle.zq_model.specs.Meaning.{Scored}
use Rattle.zq_model.specs.Sets.{IsIn}
use Rattle.zq_model.proofs.Counted.{in_merged, queue_merged}
use Rattle.zq_model.specs.Lent.{queues_of}
use Rattle.zq_model.specs.Moves.{Queue}
use Rattle.zq_posheap.proofs.Lists.{there_is}
use Rattle.zq_spread.proofs.ManyHeaps.{seen_same, steps_same, turns_same}
use Rattle.zq_spread.proofs.Refused.{passed_on}
use Rattle.zq_spread.proofs.Seats.{seen_later}
use Rattle.zq_spread.proofs.LeftAsGiven.{left_through, none_held, worked_after}
use Rattle.zq_spread.specs.Calls.{AreWorkedIn, greatest_stamp, heaps_of}
use Rattle.zq_spread.specs.Dispatch.{HasFoundNone, HasHeldEach, HasPassedOver, HasQueued, IsCommand, IsNear, IsWornOut, all_heaps}
use Rattle.zq_spread.specs.LockedHeaps.{Follows, follows_further}
use Rattle.zq_spread.specs.Passes.{IsCountOf, IsPassOf, IsSlotAt, IsSeatOf, IsSeenLater, IsStopped, seen_at, seen_in}
use Rattle.zq_spread.specs.Several.{AreBack, AreBegunAt, AreBooksAt, AreHeapsOf, HasMemberIn, IsBookAt}
use Rattle.zq_spread.specs.Turns.{IsLeftAsGiven, turns_at, turns_in}
use Rattle.zq_spread.specs.Worn.{HasFoundBusy, HasFoundLast, IsBusyIn, IsPassedOver}
use Rattle.zq_spread.specs.declared.locked_heap.LockedHeap.{LockedHeap}
use Rattle.zq_spread.specs.declared.pass.Pass.{Pass}
use Rattle.zq_spread.specs.declared.heap_slot.HeapSlot.{HeapSlot}
use Rattle.zq_spread.specs.declared.site.Site.{Site}
use Rattle.zq_ticketlock.specs.Steps.{FollowsSeen}
use Rattle.zq_ticketlock.specs.Views.{idle_view, seen_by}
use Rattle.zq_ticketlock.specs.declared.seat.Seat.{Seat}
use Rattle.zq_ticketlock.specs.declared.view.View.{View}
use Rattle.zq_ticketlock.specs.declared.view.View.TheVariants.{Holding, Idle, Met, Spent, Vacant, Waiting}
use Rattle.zq_ticketlock.specs.declared.held.Held.{Held}
use Rattle.zq_words.specs.Command.{Command, Zpopnear}
use Rattle.zq_words.specs.Words.{Word}

-- ---- all heaps

pub take_range : (a n k : ℕ) → k ≤ n → take k (range_with_len a n) ≡ range_with_len a k
take_range a n zero most = refl
take_range a zero (suc k) most = absurd (omega (arith, most))
take_range a (suc n) (suc k) most = ap (λ l. a ∷ l) (take_range (a + 1) n k (omega (arith, most)))

in_range : (a n k : ℕ) → IsIn k (range_with_len a n) → a ≤ k
in_range a zero k here = absurd here
in_range a (suc n) k (inl same) = omega (arith, same)
in_range a (suc n) k (inr there) = let low = in_range (a + 1) n k there in omega (arith, low)

in_range_high : (a n k : ℕ) → IsIn k (range_with_len a n) → k < a + n
in_range_high a zero k here = absurd here
in_range_high a (suc n) k (inl same) = omega (arith, same)
in_range_high a (suc n) k (inr there) = let high = in_range_high (a + 1) n k there in omega (arith, high)

pub heaps_all : (site : Site) (a n : ℕ) → a + n ≤ heaps_of site → AreHeapsOf site (range_with_len a n)
heaps_all site a zero most = tt
heaps_all site a (suc n) most = (omega (arith, most), (λ k here. let low = in_range (a + 1) n k here in omega (arith, low)), heaps_all site (a + 1) n (omega (arith, most)))

-- heaps of the site are among all of them
pub among_all : (site : Site) (heaps : List ℕ) (k : ℕ) → AreHeapsOf site heaps → IsIn k heaps → IsIn k (all_heaps site)
among_all site heaps k are here = let low = below heaps are here in in_range_with_len 0 (heaps_of site) k (omega arith) (omega (arith, low))
  where
    below : (hs : List ℕ) → AreHeapsOf site hs → IsIn k hs → k < heaps_of site
    below [] are here = absurd here
    below (h ∷ hs) are (inl same) = subst (λ j. j < heaps_of site) same are.0
    below (h ∷ hs) are (inr there) = below hs are.2 there

-- and so is one of them that is another's
pub busy_among : (site : Site) (heaps : List ℕ) (pass : Pass) → AreHeapsOf site heaps → HasFoundBusy heaps pass → HasFoundBusy (all_heaps site) pass
busy_among site heaps pass are busy = (busy.0, among_all site heaps busy.0 are busy.1, busy.2)

book_place : (site : Site) (a n i : ℕ) (books : List Book) (b : Book) → AreBooksAt site (range_with_len a n) books → slice_get books i ≡ Some b → IsBookAt site (a + i) b
book_place site a zero i [] b are is = absurd (let low = slice_get_within [] i b is in omega (arith, low))
book_place site a zero i (c ∷ books) b are is = absurd are
book_place site a (suc n) i [] b are is = absurd are
book_place site a (suc n) zero (c ∷ books) b are is = subst (λ (d : Book). IsBookAt site (a + 0) d) (some_is c b is) (subst (λ h. IsBookAt site h c) (omega arith) are.0)
  where
    some_is : (x y : Book) → Some x ≡ Some y → x ≡ y
    some_is x y e = cc
book_place site a (suc n) (suc i) (c ∷ books) b are is = subst (λ h. IsBookAt site h b) (omega arith) (book_place site (a + 1) n i books b are.1 is)

as_many : (site : Site) (a n : ℕ) (books : List Book) → AreBooksAt site (range_with_len a n) books → length books ≡ n
as_many site a zero [] are = refl
as_many site a zero (c ∷ books) are = absurd are
as_many site a (suc n) [] are = absurd are
as_many site a (suc n) (c ∷ books) are = let rest = as_many site (a + 1) n books are.1 in omega (arith, rest)

-- each member that a command names lies in one of all heaps
pub homes_all : (site : Site) (books : List Book) (command : Command) → 2 ≤ heaps_of site → heaps_of site ≤ 16 → AreBooksAt site (range_with_len 0 (heaps_of site)) books →
    HasBooks command (lending_of books)
homes_all site books command some most are =
    let long = as_many site 0 (heaps_of site) books are in
    let first = rule_first books (omega (arith, long, some)) are in
    let of : AreOfSite books = record {
      number = (omega (arith, long, some), omega (arith, long, most));
      each = λ h b is.
          let at = book_place site 0 (heaps_of site) h books b are is in
          let heaps : b.heaps ≡ length books = at.heaps ∙ sym long in
          record {
            heap_is = at.heap ∙ (let none : 0 + h ≡ h = omega arith in none);
            heaps = heaps;
            ruled = at.rule ∙ sym first;
            bounded = subst (λ (k : ℕ). IsBounded k b.heap b.state) heaps at.bounded;
          };
    } in
    site_homes books of command
  where
    rule_first : (bs : List Book) → 0 < length bs → AreBooksAt site (range_with_len 0 (heaps_of site)) bs → rule_in bs ≡ rule_of site.rule
    rule_first [] some are = absurd (omega (arith, some))
    rule_first (c ∷ bs) some are = (book_place site 0 (heaps_of site) 0 (c ∷ bs) c are refl).rule

-- ---- a pass that comes back

pub pass_back : (site : Site) (heaps : List ℕ) (p q : Pass) → IsPassOf site p → AreBack site heaps p q → IsPassOf site q
pass_back site heaps p q is back = record {
  seats = back.seats.number;
  counts = ap (λ l. length l.items) back.outside.counts ∙ is.counts;
  slots = is.slots;
  seat = λ h slot at. elim (in_or_not h heaps) [
    | inl here ↦ back.seats.seat h slot here at
    | inr out ↦ subst (IsSeatOf slot) (sym (back.outside.seats h out)) (is.seat h slot at)
  ];
  count = λ h slot at. subst (λ l. IsCountOf slot (slice_get l.items h)) (sym back.outside.counts) (is.count h slot at);
  stamp = let same = back.outside.stamp in let low = is.stamp in omega (arith, same, low);
}

pub stopped_back : (site : Site) (heaps : List ℕ) (p q : Pass) → AreBack site heaps p q → IsStopped p q
stopped_back site heaps p q back = record {
  stamp = back.outside.stamp;
  steps = λ k. steps_same heaps p q k back.outside;
  seen = λ k. elim (in_or_not k heaps) [
    | inl here ↦ back.seen k here
    | inr out ↦ subst (λ o. IsSeenLater o (seen_at p k)) (sym (seen_same heaps p q k back.outside out)) (seen_later (seen_at p k))
  ];
  left = λ k. elim (in_or_not k heaps) [
    | inl here ↦ back.left k here
    | inr out ↦ subst (λ l. IsLeftAsGiven l (turns_at p k)) (sym (turns_same heaps p q k back.outside out)) (none_held (turns_at p k))
  ];
}

-- ---- a call after a call that was stopped

view_seen : (v : View LockedHeap) (b : Bool) → (idle_view v && b) ≡ true → IsSome (seen_by v)
view_seen (Vacant n out) b is = absurd (cc)
view_seen (Idle low reached x turns) b is = refl
view_seen (Met low x y turns) b is = absurd (cc)
view_seen (Waiting n x turns) b is = absurd (cc)
view_seen (Holding n x turns) b is = absurd (cc)
view_seen Spent b is = absurd (cc)

-- a seat that is there has seen a value
seat_seen : (slot : HeapSlot) (o : Option (Option (Seat LockedHeap))) → IsSeatOf slot o → IsSome (seen_in o)
seat_seen slot (Some (Some seat)) is = view_seen seat.place.me.0 _ seat.idle
seat_seen slot (Some None) is = absurd is
seat_seen slot None is = absurd is

later_seen : (x : LockedHeap) (o before : Option LockedHeap) → IsSome o → FollowsSeen Follows x o → IsSeenLater o before → FollowsSeen Follows x before
later_seen x (Some y) (Some z) some follows later = follows_further x y z follows later
later_seen x (Some y) None some follows later = tt
later_seen x None before some follows later = absurd (cc)

-- the seat in a heap that the site does not have
seat_past : (site : Site) (p q : Pass) (k : ℕ) → IsPassOf site p → IsPassOf site q → heaps_of site ≤ k → slice_get q.seats.items k ≡ slice_get p.seats.items k
seat_past site p q k at_p at_q high =
    let one = at_q.seats in
    let other = at_p.seats in
    slice_get_past q.seats.items k (omega (arith, high, one)) ∙ sym (slice_get_past p.seats.items k (omega (arith, high, other)))

module _ (site : Site) (p q : Pass) (at_p : IsPassOf site p) (at_q : IsPassOf site q) (stopped : IsStopped p q) where
  worked_before : (r : Pass) (heaps : List ℕ) (found left : List LockedHeap) (steps : List (List Step)) → ((k : ℕ) → IsIn k heaps → k < heaps_of site) → AreWorkedIn q r heaps found left steps →
      AreWorkedIn p r heaps found left steps
  worked_before r [] [] [] [] inside are = tt
  worked_before r [] (x ∷ found) left steps inside are = absurd are
  worked_before r [] [] (y ∷ left) steps inside are = absurd are
  worked_before r [] [] [] (ss ∷ steps) inside are = absurd are
  worked_before r (h ∷ heaps) [] left steps inside are = absurd are
  worked_before r (h ∷ heaps) (x ∷ found) [] steps inside are = absurd are
  worked_before r (h ∷ heaps) (x ∷ found) (y ∷ left) [] inside are = absurd are
  worked_before r (h ∷ heaps) (x ∷ found) (y ∷ left) (ss ∷ steps) inside are =
      let slot = there_is site.slots.items h (inside h (inl refl)) in (
        record {
          follows = later_seen x (seen_at q h) (seen_at p h) (seat_seen slot.0 (slice_get q.seats.items h) (at_q.seat h slot.0 slot.1)) are.0.follows (stopped.seen h);
          worked = are.0.worked;
          seen = are.0.seen;
          own = let same = stopped.steps h in let made = are.0.own in omega (arith, same, made);
          turn = worked_after x y (turns_at p h) (turns_at q h) (turns_at r h) are.0.turn (stopped.left h);
        },
        worked_before r heaps found left steps (λ k here. inside k (inr here)) are.1,
      )

  -- a call over all heaps, after a call that was stopped
  pub command_before : (command : Command) (reply : Word) (r : Pass) → IsCommand site command reply q r (all_heaps site) → IsCommand site command reply p r (all_heaps site)
  command_before command reply r call = record {
    found = call.found;
    left = call.left;
    steps = call.steps;
    next = call.next ∙ ap (λ n. max n (greatest_stamp call.found) + 1) stopped.stamp;
    worked = worked_before r (all_heaps site) call.found call.left call.steps (λ k here. let high = in_range_high 0 (heaps_of site) k here in omega (arith, high)) call.worked;
    others = λ k out.
        let stays = call.others k out in
        let high : heaps_of site ≤ k = elim (cases_lt k (heaps_of site)) [ inl low ↦ absurd (out (in_range_with_len 0 (heaps_of site) k (omega arith) (omega (arith, low)))) | inr high ↦ omega (arith, high) ] in
        let seat = seat_past site p q k at_p at_q high in
        (stays.0 ∙ ap seen_in seat, stays.1 ∙ stopped.steps k, stays.2 ∙ ap turns_in seat);
    done = call.done;
  }

  stopped_before : (r : Pass) → IsPassOf site r → IsStopped q r → IsStopped p r
  stopped_before r at_r later = record {
    stamp = later.stamp ∙ stopped.stamp;
    steps = λ k. later.steps k ∙ stopped.steps k;
    seen = λ k. elim (cases_lt k (heaps_of site)) [
      | inl low ↦
          let slot = there_is site.slots.items k low in
          later_both (seen_at r k) (seen_at q k) (seen_at p k) (seat_seen slot.0 (slice_get q.seats.items k) (at_q.seat k slot.0 slot.1)) (later.seen k) (stopped.seen k)
      | inr high ↦ subst (λ o. IsSeenLater (seen_at r k) o) (ap seen_in (seat_past site p q k at_p at_q (omega (arith, high)))) (later.seen k)
    ];
    left = λ k. left_through (turns_at p k) (turns_at q k) (turns_at r k) (later.left k) (stopped.left k);
  }
    where
      later_both : (o m b : Option LockedHeap) → IsSome m → IsSeenLater o m → IsSeenLater m b → IsSeenLater o b
      later_both None m b some first then = tt
      later_both (Some x) m b some first then = later_seen x m b some first then

  -- a refusal, after a call that was stopped
  worn_before : (heaps : List ℕ) (reply : Word) (r : Pass) → IsPassOf site r → IsWornOut heaps reply q r → IsWornOut heaps reply p r
  worn_before heaps reply r at_r worn = (worn.0, (stopped_before r at_r worn.1.0, subst (λ n. HasFoundLast n heaps r) stopped.stamp worn.1.1))

  pub busy_before : (heaps : List ℕ) (r : Pass) → IsPassOf site r → IsBusyIn heaps q r → IsBusyIn heaps p r
  busy_before heaps r at_r busy = (stopped_before r at_r busy.0, busy.1)

  -- ZPOPNEAR over all heaps, after the two that it drew had no member
  pub near_after : (command : Command) (key : List ℕ) (reply : Word) (r : Pass) (drawn : List ℕ) → command ≡ Zpopnear key → AreHeapsOf site drawn → IsPassOf site r →
      ((h : ℕ) → IsIn h drawn → IsPassedOver key [] p q h) → (IsCommand site command reply q r (all_heaps site) × HasHeldEach q r (all_heaps site)) ⊎ IsWornOut (all_heaps site) reply q r →
      IsNear site command reply p r drawn
  near_after command key reply r drawn near are at_r over (inl both) =
      inr
      (inl (
        command_before command reply r both.0,
        subst (λ c. HasPassedOver c p r drawn) (sym near) (λ h here. let held = both.1 h (among_all site drawn h are here) in (held.0, passed_on key (held.0 ∷ []) p q r h held.1 (over h here))),
      ))
  near_after command key reply r drawn near are at_r over (inr worn) =
      inr
      (inr
      (inr (
        worn_before (all_heaps site) reply r at_r worn,
        subst (λ c. HasFoundNone c p r drawn) (sym near) (λ h here. let left = worn.1.0.left h in (left.holds, passed_on key left.holds p q r h left.turns (over h here))),
      )))

-- ---- a member of the key

queue_some : (rule : Rule) (key : List ℕ) (b : Book) (books : List Book) → IsIn b books → 1 ≤ length (queues_of rule (b ∷ []) key) → HasQueued rule key books
queue_some rule key b books here some =
    let first = head_of (queues_of rule (b ∷ []) key) some in
    some_of (queues_of rule books key) first.0 (queued_first books here first.0 first.1)
  where
    head_of : (q : Queue) → 1 ≤ length q → (y : Scored) × IsIn y q
    head_of [] some = absurd (omega (arith, some))
    head_of (y ∷ q) some = (y, inl refl)

    some_of : (q : Queue) (y : Scored) → IsIn y q → 1 ≤ length q
    some_of [] y none = absurd none
    some_of (z ∷ q) y here = omega arith

    queued_first : (bs : List Book) → IsIn b bs → (y : Scored) → IsIn y (queues_of rule (b ∷ []) key) → IsIn y (queues_of rule bs key)
    queued_first [] none y is = absurd none
    queued_first (c ∷ bs) (inl same) y is =
        subst (IsIn y) (sym (queue_merged rule key c bs)) (in_merged (queues_of rule (c ∷ []) key) (queues_of rule bs key) y (inl (subst (λ (d : Book). IsIn y (queues_of rule (d ∷ []) key)) (sym same) is)))
    queued_first (c ∷ bs) (inr there) y is =
        subst (IsIn y) (sym (queue_merged rule key c bs)) (in_merged (queues_of rule (c ∷ []) key) (queues_of rule bs key) y (inr (queued_first bs there y is)))

-- what was found is of the site's rule
found_rule : (site : Site) (slots : (h : ℕ) (slot : HeapSlot) → slice_get site.slots.items h ≡ Some slot → IsSlotAt site h slot) (before : Pass) (stamp : ℕ) (heaps : List ℕ) (helds : List (Held LockedHeap))
    (found : List LockedHeap) (x : LockedHeap) → AreBegunAt site before stamp heaps helds found → IsIn x found → x.book.rule ≡ rule_of site.rule
found_rule site slots before stamp [] [] [] x are here = absurd here
found_rule site slots before stamp [] [] (y ∷ found) x are here = absurd are
found_rule site slots before stamp [] (held ∷ helds) found x are here = absurd are
found_rule site slots before stamp (h ∷ heaps) [] found x are here = absurd are
found_rule site slots before stamp (h ∷ heaps) (held ∷ helds) [] x are here = absurd here
found_rule site slots before stamp (h ∷ heaps) (held ∷ helds) (y ∷ found) x are (inl same) =
    ap (λ (k : LockedHeap). k.book.rule) (sym same) ∙ are.0.of.rule ∙ ap rule_of (slots h are.0.slot are.0.at).2
found_rule site slots before stamp (h ∷ heaps) (held ∷ helds) (y ∷ found) x are (inr there) = found_rule site slots before stamp heaps helds found x are.1 there

pub queued_found : (site : Site) (slots : (h : ℕ) (slot : HeapSlot) → slice_get site.slots.items h ≡ Some slot → IsSlotAt site h slot) (before : Pass) (stamp : ℕ) (heaps key : List ℕ) (helds : List (Held LockedHeap))
    (found : List LockedHeap) → AreBegunAt site before stamp heaps helds found → HasMemberIn key found → HasQueued (rule_of site.rule) key (map (λ (x : LockedHeap). x.book) found)
queued_found site slots before stamp heaps key helds found are has =
    let x = has.0 in
    queue_some (rule_of site.rule) key x.book (map (λ (y : LockedHeap). y.book) found) (in_map (λ (y : LockedHeap). y.book) x found has.1)
    (subst (λ r. 1 ≤ length (queue_of r key (x.book.state.members ∷ []))) (found_rule site slots before stamp heaps helds found x are has.1) has.2)
