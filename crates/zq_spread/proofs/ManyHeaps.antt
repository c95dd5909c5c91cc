-- Several heaps that a call holds: how one heap more goes with those after it.

use Rattle.std.proofs.Common.{ap, arith, inl, inr, subst, sym, ◌∙◌}
use Rattle.std.specs.Prelude.{Err, IfOk, IfSome, List, Ok, OnErr, OnOk, Result, Some, [], length, max, refl, slice_get, true, ℕ, ◌+◌, ◌<◌, ◌∷◌, ◌≡◌, ◌≤◌, ◌⊎◌}
use Rattle.zq_journal.specs.Books.{LAST_STAMP, state_of}
use Rattle.zq_model.specs.Sets.{IsIn}
use Rattle.zq_shard.specs.Shard.{queue_at}
use Rattle.zq_spread.proofs.Seats.{seen_later}
use Rattle.zq_spread.proofs.LeftAsGiven.{held_once, none_held}
use Rattle.zq_spread.specs.LockedHeaps.{Follows}
use Rattle.zq_spread.specs.Passes.{IsCountOf, IsPassBut, IsPassOf, IsSeatOf, IsSeenLater, seen_at, seen_in, steps_at, steps_in}
use Rattle.zq_spread.specs.Several.{AreBack, AreBegunAt, AreHeapsOf, HasBegun, HasEndedIn, HasPushed, HasSeatsIn, IsBegunFrom, IsHeldAt, IsSameOutside, MayEndIn}
use Rattle.zq_spread.specs.Turns.{HasTurn, IsLeftAsGiven, turns_at, turns_in}
use Rattle.zq_spread.specs.declared.locked_heap.LockedHeap.{LockedHeap}
use Rattle.zq_spread.specs.declared.pass.Pass.{Pass}
use Rattle.zq_spread.specs.declared.heap_slot.HeapSlot.{HeapSlot}
use Rattle.zq_spread.specs.declared.site.Site.{Site}
use Rattle.zq_spread.specs.declared.lock_scan.LockScan.{LockScan}
use Rattle.zq_spread.specs.declared.lock_scan.Stop.{Stop}
use Rattle.zq_ticketlock.specs.Seats.{given, held_logged, value_of}
use Rattle.zq_ticketlock.specs.Steps.{FollowsSeen}
use Rattle.zq_ticketlock.specs.declared.held.Held.{Held}

-- ---- seats

pub nothing_changed : (pass : Pass) → IsSameOutside [] pass pass
nothing_changed pass = record { number = refl; seats = λ k out. refl; counts = refl; stamp = refl }

-- what a pass has seen of a heap whose seat stayed
pub seen_same : (heaps : List ℕ) (before after : Pass) (k : ℕ) → IsSameOutside heaps before after → (IsIn k heaps → ⊥) → seen_at after k ≡ seen_at before k
seen_same heaps before after k same out = ap seen_in (same.seats k out)

-- and its turns there
pub turns_same : (heaps : List ℕ) (before after : Pass) (k : ℕ) → IsSameOutside heaps before after → (IsIn k heaps → ⊥) → turns_at after k ≡ turns_at before k
turns_same heaps before after k same out = ap turns_in (same.seats k out)

pub steps_same : (heaps : List ℕ) (before after : Pass) (k : ℕ) → IsSameOutside heaps before after → steps_at after k ≡ steps_at before k
steps_same heaps before after k same = ap (λ c. steps_in (slice_get c.items k)) same.counts

-- a seat was taken out and put back
pub changed_back : (h : ℕ) (p q r : Pass) → IsSameOutside (h ∷ []) p q → IsSameOutside (h ∷ []) q r → IsSameOutside (h ∷ []) p r
changed_back h p q r first then = record {
  number = then.number ∙ first.number;
  seats = λ k out. then.seats k out ∙ first.seats k out;
  counts = then.counts ∙ first.counts;
  stamp = then.stamp ∙ first.stamp;
}

pub back_one : (site : Site) (h : ℕ) (p q r : Pass) → IsSameOutside (h ∷ []) p q → IsSameOutside (h ∷ []) q r → HasSeatsIn site (h ∷ []) r → seen_at r h ≡ seen_at p h →
    turns_at r h ≡ turns_at p h → AreBack site (h ∷ []) p r
back_one site h p q r first then seats seen turns = record {
  seats = seats;
  outside = changed_back h p q r first then;
  seen = λ k is. elim is [
    | inl same ↦ subst (λ j. IsSeenLater (seen_at r j) (seen_at p j)) same (subst (λ o. IsSeenLater o (seen_at p h)) (sym seen) (seen_later (seen_at p h)))
    | inr none ↦ absurd none
  ];
  left = λ k is. elim is [
    | inl same ↦ subst (λ j. IsLeftAsGiven (turns_at r j) (turns_at p j)) same (subst (λ l. IsLeftAsGiven l (turns_at p h)) (sym turns) (none_held (turns_at p h)))
    | inr none ↦ absurd none
  ];
}

-- the pass of which one seat was taken has those in the other heaps
module _ (site : Site) (h : ℕ) (heaps : List ℕ) (are : AreHeapsOf site (h ∷ heaps)) where
  apart : (k : ℕ) → IsIn k heaps → IsIn k (h ∷ []) → ⊥
  apart k here is = elim is [ inl same ↦ (let low = are.1 k here in absurd (omega (arith, same, low))) | inr none ↦ absurd none ]

  pub seats_rest : (p q : Pass) → HasSeatsIn site (h ∷ heaps) p → IsSameOutside (h ∷ []) p q → HasSeatsIn site heaps q
  seats_rest p q has same = record {
    number = same.number ∙ has.number;
    seat = λ k slot here at. subst (IsSeatOf slot) (sym (same.seats k (apart k here))) (has.seat k slot (inr here) at);
  }

  -- what changed in one heap and then in the others
  pub outside_more : (p q r : Pass) → IsSameOutside (h ∷ []) p q → IsSameOutside heaps q r → IsSameOutside (h ∷ heaps) p r
  outside_more p q r first then = record {
    number = then.number ∙ first.number;
    seats = λ k out. then.seats k (λ here. out (inr here)) ∙ first.seats k (λ is. elim is [ inl same ↦ out (inl same) | inr none ↦ absurd none ]);
    counts = then.counts ∙ first.counts;
    stamp = then.stamp ∙ first.stamp;
  }

  -- and then in the one heap again
  outside_again : (p q r s : Pass) → IsSameOutside (h ∷ []) p q → IsSameOutside heaps q r → IsSameOutside (h ∷ []) r s → IsSameOutside (h ∷ heaps) p s
  outside_again p q r s first then last =
      let half = outside_more p q r first then in
      record {
        number = last.number ∙ half.number;
        seats = λ k out. last.seats k (λ is. elim is [ inl same ↦ out (inl same) | inr none ↦ absurd none ]) ∙ half.seats k out;
        counts = last.counts ∙ half.counts;
        stamp = last.stamp ∙ half.stamp;
      }

  seat_of_one : (q : Pass) (k : ℕ) (slot : HeapSlot) → HasSeatsIn site (h ∷ []) q → h ≡ k → slice_get site.slots.items k ≡ Some slot → IsSeatOf slot (slice_get q.seats.items k)
  seat_of_one q k slot has same at = has.seat k slot (inl same) at

  -- the first heap was refused
  pub back_first : (p q : Pass) → HasSeatsIn site (h ∷ heaps) p → AreBack site (h ∷ []) p q → AreBack site (h ∷ heaps) p q
  back_first p q has back = record {
    seats = record {
      number = back.seats.number;
      seat = λ k slot is at. elim is [
        | inl same ↦ back.seats.seat k slot (inl same) at
        | inr here ↦ subst (IsSeatOf slot) (sym (back.outside.seats k (apart k here))) (has.seat k slot (inr here) at)
      ];
    };
    outside = record {
      number = back.outside.number;
      seats = λ k out. back.outside.seats k (λ is. elim is [ inl same ↦ out (inl same) | inr none ↦ absurd none ]);
      counts = back.outside.counts;
      stamp = back.outside.stamp;
    };
    seen = λ k is. elim is [
      | inl same ↦ back.seen k (inl same)
      | inr here ↦ subst (λ o. IsSeenLater o (seen_at p k)) (sym (seen_same (h ∷ []) p q k back.outside (apart k here))) (seen_later (seen_at p k))
    ];
    left = λ k is. elim is [
      | inl same ↦ back.left k (inl same)
      | inr here ↦ subst (λ l. IsLeftAsGiven l (turns_at p k)) (sym (turns_same (h ∷ []) p q k back.outside (apart k here))) (none_held (turns_at p k))
    ];
  }

  -- the others were, and the first was put home
  pub back_more : (p q r s : Pass) (value : LockedHeap) → IsSameOutside (h ∷ []) p q → AreBack site heaps q r → IsSameOutside (h ∷ []) r s → HasSeatsIn site (h ∷ []) s →
      seen_at s h ≡ Some value → HasTurn value value (turns_at s h) (turns_at p h) → FollowsSeen Follows value (seen_at p h) → AreBack site (h ∷ heaps) p s
  back_more p q r s value first then last home seen turn follows = record {
    seats = record {
      number = home.number;
      seat = λ k slot is at. elim is [
        | inl same ↦ home.seat k slot (inl same) at
        | inr here ↦ subst (IsSeatOf slot) (sym (last.seats k (apart k here))) (then.seats.seat k slot here at)
      ];
    };
    outside = outside_again p q r s first then.outside last;
    seen = λ k is. elim is [
      | inl same ↦ subst (λ j. IsSeenLater (seen_at s j) (seen_at p j)) same (subst (λ o. IsSeenLater o (seen_at p h)) (sym seen) follows)
      | inr here ↦ subst (λ o. IsSeenLater o (seen_at p k)) (sym (seen_same (h ∷ []) r s k last (apart k here)))
          (subst (λ o. IsSeenLater (seen_at r k) o) (seen_same (h ∷ []) p q k first (apart k here)) (then.seen k here))
    ];
    left = λ k is. elim is [
      | inl same ↦ subst (λ j. IsLeftAsGiven (turns_at s j) (turns_at p j)) same (held_once value value (turns_at s h) (turns_at p h) turn refl)
      | inr here ↦ subst (λ l. IsLeftAsGiven l (turns_at p k)) (sym (turns_same (h ∷ []) r s k last (apart k here)))
          (subst (λ l. IsLeftAsGiven (turns_at r k) l) (turns_same (h ∷ []) p q k first (apart k here)) (then.left k here))
    ];
  }

-- a call that was refused leaves a pass of the site's
pub seats_of : (site : Site) (heaps : List ℕ) (pass : Pass) → IsPassOf site pass → HasSeatsIn site heaps pass
seats_of site heaps pass is = record { number = is.seats; seat = λ h slot here at. is.seat h slot at }

-- ---- a call that begins

-- in no heap
pub begun_none : (site : Site) (before : Pass) (key : List ℕ) (scan : LockScan) (stamp : ℕ) → stamp ≡ scan.stamp + 1 → stamp ≤ LAST_STAMP → scan.is_enough ≡ true →
    HasBegun site before [] key scan stamp []
begun_none site before key scan stamp next last enough = record {
  found = [];
  each = tt;
  next = let same : max scan.stamp 0 ≡ scan.stamp = omega arith in omega (arith, next, same);
  last = last;
  enough = inl enough;
}

-- what was found of a pass that is the same in these heaps
begun_before : (site : Site) (p q : Pass) (stamp : ℕ) (heaps : List ℕ) (helds : List (Held LockedHeap)) (found : List LockedHeap) →
    ((k : ℕ) → IsIn k heaps → (seen_at q k ≡ seen_at p k) × (turns_at q k ≡ turns_at p k)) → AreBegunAt site q stamp heaps helds found → AreBegunAt site p stamp heaps helds found
begun_before site p q stamp [] [] [] same are = tt
begun_before site p q stamp [] [] (x ∷ found) same are = absurd are
begun_before site p q stamp [] (held ∷ helds) found same are = absurd are
begun_before site p q stamp (h ∷ heaps) [] found same are = absurd are
begun_before site p q stamp (h ∷ heaps) (held ∷ helds) [] same are = absurd are
begun_before site p q stamp (h ∷ heaps) (held ∷ helds) (x ∷ found) same are = (
  record {
    slot = are.0.slot;
    at = are.0.at;
    lock = are.0.lock;
    was_given = are.0.was_given;
    follows = subst (FollowsSeen Follows x) (same h (inl refl)).0 are.0.follows;
    home = are.0.home;
    of = are.0.of;
    later = are.0.later;
    worked = are.0.worked;
    total = are.0.total;
    bounded = are.0.bounded;
    turns = are.0.turns ∙ (same h (inl refl)).1;
  },
  begun_before site p q stamp heaps helds found (λ k here. same k (inr here)) are.1,
)

-- in one heap more, before the others
pub begun_more : (site : Site) (p q : Pass) (h : ℕ) (heaps key : List ℕ) (scan next : LockScan) (stamp : ℕ) (held now : Held LockedHeap) (helds : List (Held LockedHeap)) → AreHeapsOf site (h ∷ heaps) →
    IsHeldAt site h held → FollowsSeen Follows (value_of held) (seen_at p h) → held_logged held ≡ turns_at p h → IsSameOutside (h ∷ []) p q → next.stamp ≡ max scan.stamp (value_of held).book.stamp →
    (next.is_enough ≡ true → (scan.is_enough ≡ true) ⊎ (1 ≤ length (queue_at (state_of (value_of held).book) key))) →
    HasBegun site q heaps key next stamp helds → IsBegunFrom stamp held now → HasBegun site p (h ∷ heaps) key scan stamp (now ∷ helds)
begun_more site p q h heaps key scan next stamp held now helds are is follows turns same greatest enough rest from =
    let x : LockedHeap = value_of held in
    let other : (k : ℕ) → IsIn k heaps → IsIn k (h ∷ []) → ⊥ = λ k here is. elim is [ inl e ↦ (let low = are.1 k here in absurd (omega (arith, e, low))) | inr none ↦ absurd none ] in
    record {
      found = x ∷ rest.found;
      each = (
        record {
          slot = is.slot;
          at = is.at;
          lock = from.lock ∙ is.lock;
          was_given = from.was_given ∙ is.was_given;
          follows = follows;
          home = is.home;
          of = is.of;
          later = let n = rest.next in omega (arith, n, greatest);
          worked = from.worked;
          total = from.total;
          bounded = from.bounded;
          turns = from.turns ∙ turns;
        },
        begun_before site p q stamp heaps helds rest.found (λ k here. (seen_same (h ∷ []) p q k same (other k here), turns_same (h ∷ []) p q k same (other k here))) rest.each,
      );
      next = let n = rest.next in omega (arith, n, greatest);
      last = rest.last;
      enough = elim rest.enough [
        | inl was ↦ elim (enough was) [ inl before ↦ inl before | inr here ↦ inr (x, inl refl, here) ]
        | inr there ↦ inr (there.0, inr there.1, there.2)
      ];
    }

-- the stamp is later than what was found there
pub later_than : (site : Site) (q : Pass) (heaps key : List ℕ) (scan next : LockScan) (stamp : ℕ) (value : LockedHeap) (helds : List (Held LockedHeap)) → next.stamp ≡ max scan.stamp value.book.stamp →
    HasBegun site q heaps key next stamp helds → value.book.stamp < stamp
later_than site q heaps key scan next stamp value helds greatest rest = let n = rest.next in omega (arith, n, greatest)

-- as many are held as there are heaps
pub begun_length : (site : Site) (before : Pass) (stamp : ℕ) (heaps : List ℕ) (helds : List (Held LockedHeap)) (found : List LockedHeap) → AreBegunAt site before stamp heaps helds found → length helds ≡ length heaps
begun_length site before stamp [] [] [] are = refl
begun_length site before stamp [] [] (x ∷ found) are = absurd are
begun_length site before stamp [] (held ∷ helds) found are = absurd are
begun_length site before stamp (h ∷ heaps) [] found are = absurd are
begun_length site before stamp (h ∷ heaps) (held ∷ helds) [] are = absurd are
begun_length site before stamp (h ∷ heaps) (held ∷ helds) (x ∷ found) are = let rest = begun_length site before stamp heaps helds found are.1 in omega (arith, rest)

-- ---- the same of a result

pub on_err : {T E : Type 0} {P : Type 0} (r : Result T E) → P → OnErr r P
on_err (Ok x) is = tt
on_err (Err e) is = is

-- there is room for one more
pub has_room : (site : Site) (q : Pass) (heaps key : List ℕ) (next : LockScan) (helds : List (Held LockedHeap)) (room : ℕ) (r : Result ℕ Stop) → IfOk r (λ stamp. HasBegun site q heaps key next stamp helds) →
    length heaps + 1 ≤ room → OnOk r (length helds < room)
has_room site q heaps key next helds room (Ok stamp) begun most = let long = begun_length site q stamp heaps helds begun.found begun.each in omega (arith, long, most)
has_room site q heaps key next helds room (Err stop) begun most = tt

pub begun_on_more : (site : Site) (p q : Pass) (h : ℕ) (heaps key : List ℕ) (scan next : LockScan) (held : Held LockedHeap) (mid last : List (Held LockedHeap)) (r s : Result ℕ Stop) → s ≡ r →
    AreHeapsOf site (h ∷ heaps) → IsHeldAt site h held → FollowsSeen Follows (value_of held) (seen_at p h) → held_logged held ≡ turns_at p h → IsSameOutside (h ∷ []) p q → next.stamp ≡ max scan.stamp (value_of held).book.stamp →
    (next.is_enough ≡ true → (scan.is_enough ≡ true) ⊎ (1 ≤ length (queue_at (state_of (value_of held).book) key))) →
    IfOk r (λ stamp. HasBegun site q heaps key next stamp mid) → IfOk r (λ stamp. HasPushed stamp held mid last) → IfOk s (λ stamp. HasBegun site p (h ∷ heaps) key scan stamp last)
begun_on_more site p q h heaps key scan next held mid last (Ok stamp) s same are is follows turns outside greatest enough begun pushed =
    subst (λ o. IfOk o (λ n. HasBegun site p (h ∷ heaps) key scan n last)) (sym same)
    (subst (λ l. HasBegun site p (h ∷ heaps) key scan stamp l) (sym pushed.1) (begun_more site p q h heaps key scan next stamp held pushed.0 mid are is follows turns outside greatest enough begun pushed.2))
begun_on_more site p q h heaps key scan next held mid last (Err stop) s same are is follows turns outside greatest enough begun pushed =
    subst (λ o. IfOk o (λ n. HasBegun site p (h ∷ heaps) key scan n last)) (sym same) tt

pub back_on_more : (site : Site) (h : ℕ) (heaps : List ℕ) (p q m n : Pass) (held : Held LockedHeap) (G : Type 0) (r s : Result ℕ Stop) → s ≡ r → AreHeapsOf site (h ∷ heaps) → IsSameOutside (h ∷ []) p q →
    FollowsSeen Follows (value_of held) (seen_at p h) → held_logged held ≡ turns_at p h → OnErr r (AreBack site heaps q m) → IsSameOutside (h ∷ []) m n →
    OnErr r (G × HasSeatsIn site (h ∷ []) n × (seen_at n h ≡ Some (value_of held)) × HasTurn (value_of held) (value_of held) (turns_at n h) (held_logged held)) → OnErr s (AreBack site (h ∷ heaps) p n)
back_on_more site h heaps p q m n held G (Ok stamp) s same are first follows turns back last home = subst (λ o. OnErr o (AreBack site (h ∷ heaps) p n)) (sym same) tt
back_on_more site h heaps p q m n held G (Err stop) s same are first follows turns back last home =
    let value : LockedHeap = value_of held in
    let turn : HasTurn value value (turns_at n h) (turns_at p h) = subst (λ l. HasTurn value value (turns_at n h) l) turns home.3 in
    subst (λ o. OnErr o (AreBack site (h ∷ heaps) p n)) (sym same) (back_more site h heaps are p q m n value first back last home.1 home.2 turn follows)

-- ---- a call that ends

-- a pass with no seat out, and another stamp
pub stamped_home : (site : Site) (old new : Pass) → IsPassBut site [] old → new.seats ≡ old.seats → new.counts ≡ old.counts → new.stamp ≤ LAST_STAMP → IsPassOf site new
stamped_home site old new is seats counts stamp = record {
  seats = ap (λ l. length l.items) seats ∙ is.seats;
  counts = ap (λ l. length l.items) counts ∙ is.counts;
  slots = is.slots;
  seat = λ h slot at. subst (λ l. IsSeatOf slot (slice_get l.items h)) (sym seats) (is.seat h slot (λ none. absurd none) at);
  count = λ h slot at. subst (λ l. IsCountOf slot (slice_get l.items h)) (sym counts) (is.count h slot at);
  stamp = stamp;
}

-- what ended of a pass that was the same in these heaps
ended_before : (p q r : Pass) (heaps : List ℕ) (helds : List (Held LockedHeap)) → ((k : ℕ) → IsIn k heaps → steps_at q k ≡ steps_at p k) → HasEndedIn q r heaps helds → HasEndedIn p r heaps helds
ended_before p q r [] [] same are = tt
ended_before p q r [] (held ∷ helds) same are = absurd are
ended_before p q r (h ∷ heaps) [] same are = absurd are
ended_before p q r (h ∷ heaps) (held ∷ helds) same are = (
  record {
    left = are.0.left;
    seen = are.0.seen;
    book = are.0.book;
    steps = subst (λ n. IfSome (given held) (λ (x : LockedHeap). steps_at r h + x.book.count ≡ n + (value_of held).book.count)) (same h (inl refl)) are.0.steps;
    turn = are.0.turn;
  },
  ended_before p q r heaps helds (λ k here. same k (inr here)) are.1,
)

-- one heap was ended, and then the others
pub ended_more : (site : Site) (p q r : Pass) (h : ℕ) (heaps : List ℕ) (held : Held LockedHeap) (helds : List (Held LockedHeap)) → AreHeapsOf site (h ∷ heaps) →
    ((left : LockedHeap) × (seen_at q h ≡ Some left) × (left.book ≡ (value_of held).book) × IfSome (given held) (λ found. HasTurn found left (turns_at q h) (held_logged held))) →
    IfSome (given held) (λ found. steps_at q h + found.book.count ≡ steps_at p h + (value_of held).book.count) →
    ((k : ℕ) → (k ≡ h → ⊥) → (seen_at q k ≡ seen_at p k) × (steps_at q k ≡ steps_at p k) × (turns_at q k ≡ turns_at p k)) →
    ((k : ℕ) → (IsIn k heaps → ⊥) → (seen_at r k ≡ seen_at q k) × (steps_at r k ≡ steps_at q k) × (turns_at r k ≡ turns_at q k)) → HasEndedIn q r heaps helds → HasEndedIn p r (h ∷ heaps) (held ∷ helds)
ended_more site p q r h heaps held helds are left steps others later rest =
    let out : IsIn h heaps → ⊥ = λ here. let low = are.1 h here in absurd (omega (arith, low)) in
    let stays = later h out in (
      record {
        left = left.0;
        seen = stays.0 ∙ left.1;
        book = left.2;
        steps = subst (λ n. IfSome (given held) (λ (x : LockedHeap). n + x.book.count ≡ steps_at p h + (value_of held).book.count)) (sym stays.1) steps;
        turn = subst (λ l. IfSome (given held) (λ (x : LockedHeap). HasTurn x left.0 l (held_logged held))) (sym stays.2) left.3;
      },
      ended_before p q r heaps helds (λ k here. (others k (λ e. let low = are.1 k here in absurd (omega (arith, e, low)))).1) rest,
    )

-- outside of these heaps nothing has changed of what the pass has seen, its steps and its turns
abbrev pub IsSameBeside : List ℕ → Pass → Pass → Type 0
IsSameBeside heaps before after = (k : ℕ) → (IsIn k heaps → ⊥) → (seen_at after k ≡ seen_at before k) × (steps_at after k ≡ steps_at before k) × (turns_at after k ≡ turns_at before k)

-- a call is being ended in these heaps, and is left to be ended in some: where it has ended there, it has in all
pub record IsEnding (site : Site) (heaps : List ℕ) (helds : List (Held LockedHeap)) (before now : Pass) (left : List ℕ) (held : List (Held LockedHeap)) : Type 0 where
  pub are : AreHeapsOf site left
  pub but : IsPassBut site left now
  pub may : MayEndIn site left held
  pub rest : (after : Pass) → HasEndedIn now after left held → IsSameBeside left now after → HasEndedIn before after heaps helds × IsSameBeside heaps before after

-- one of those that are left was ended
pub ending_more : (site : Site) (heaps : List ℕ) (helds : List (Held LockedHeap)) (p q r : Pass) (h : ℕ) (left : List ℕ) (one : Held LockedHeap) (held : List (Held LockedHeap)) →
    IsEnding site heaps helds p q (h ∷ left) (one ∷ held) → ((out : List ℕ) → IsPassBut site (h ∷ out) q → IsPassBut site out r) →
    ((x : LockedHeap) × (seen_at r h ≡ Some x) × (x.book ≡ (value_of one).book) × IfSome (given one) (λ found. HasTurn found x (turns_at r h) (held_logged one))) →
    IfSome (given one) (λ found. steps_at r h + found.book.count ≡ steps_at q h + (value_of one).book.count) →
    ((k : ℕ) → (k ≡ h → ⊥) → (seen_at r k ≡ seen_at q k) × (steps_at r k ≡ steps_at q k) × (turns_at r k ≡ turns_at q k)) → IsEnding site heaps helds p r left held
ending_more site heaps helds p q r h left one held is home seen steps others = record {
  are = is.are.2;
  but = home left is.but;
  may = is.may.1;
  rest = λ after ended beside. is.rest after (ended_more site q r after h left one held is.are seen steps others beside ended) (λ k out.
      let later = beside k (λ here. out (inr here)) in
      let first = others k (λ e. out (inl (sym e))) in (later.0 ∙ first.0, later.1 ∙ first.1, later.2 ∙ first.2));
}

-- none is left
pub ending_done : (site : Site) (heaps : List ℕ) (helds : List (Held LockedHeap)) (p q r : Pass) (held : List (Held LockedHeap)) → IsEnding site heaps helds p q [] held → r.seats ≡ q.seats → r.counts ≡ q.counts →
    r.stamp ≤ LAST_STAMP → IsPassOf site r × HasEndedIn p r heaps helds × IsSameBeside heaps p r
ending_done site heaps helds p q r [] is seats counts stamp =
    let both = is.rest r tt (λ k out. (ap (λ l. seen_in (slice_get l.items k)) seats, ap (λ l. steps_in (slice_get l.items k)) counts, ap (λ l. turns_in (slice_get l.items k)) seats)) in
    (stamped_home site q r is.but seats counts stamp, both.0, both.1)
ending_done site heaps helds p q r (one ∷ held) is seats counts stamp = absurd is.may

-- the first of those that may end
pub may_end_first : (site : Site) (h : ℕ) (heaps : List ℕ) (helds : List (Held LockedHeap)) → MayEndIn site (h ∷ heaps) helds → 0 < length helds
may_end_first site h heaps [] are = absurd are
may_end_first site h heaps (held ∷ helds) are = omega arith

pub may_end_none : (site : Site) (helds : List (Held LockedHeap)) → MayEndIn site [] helds → helds ≡ []
may_end_none site [] are = refl
may_end_none site (held ∷ helds) are = absurd are
