-- Why calls are refused.

use Rattle.std.proofs.Common.{ap, arith, inl, inr, subst, sym, ◌∙◌}
use Rattle.std.proofs.lemmas.Bool.{cases_lt}
use Rattle.std.specs.Prelude.{Bool, Err, IfErr, IsErrAnd, IsErrOf, List, Ok, OnErr, Option, Result, Some, [], false, length, max, refl, ℕ, ◌++◌, ◌<◌, ◌∷◌, ◌≡◌, ◌≤◌, ◌↔◌, ◌⊎◌}
use Rattle.zq_journal.specs.Books.{LAST_STAMP, state_of}
use Rattle.zq_model.specs.Sets.{IsIn}
use Rattle.zq_shard.specs.Shard.{queue_at}
use Rattle.zq_spread.specs.Passes.{IsStopped, seen_at, seen_in}
use Rattle.zq_spread.specs.Several.{AreHeapsOf, HasSeatsIn, IsSameOutside}
use Rattle.zq_spread.specs.Turns.{HasTurn, turns_at, turns_in}
use Rattle.zq_spread.specs.Worn.{HasFoundLast, IsAtLast, IsHeldElsewhere, IsPassedOver, IsRefusedIn, IsStopOf, IsUnbegun, IsUnlocked, hold_of, reached_at, reached_in, served_at, served_in, stop_of}
use Rattle.zq_spread.specs.declared.faults.HoldFault.{HoldFault}
use Rattle.zq_spread.specs.declared.faults.HoldFault.TheVariants as hold
use Rattle.zq_spread.specs.declared.locked_heap.LockedHeap.{LockedHeap}
use Rattle.zq_spread.specs.declared.pass.Pass.{Pass}
use Rattle.zq_spread.specs.declared.site.Site.{Site}
use Rattle.zq_spread.specs.declared.lock_scan.Stop.{Stop}
use Rattle.zq_spread.specs.declared.lock_scan.Stop.TheVariants as stop
use Rattle.zq_ticketlock.specs.Limits.{last_ticket}
use Rattle.zq_ticketlock.specs.Seats.{entry, held_logged, value_of}
use Rattle.zq_ticketlock.specs.declared.errors.TryFault.{TryFault}
use Rattle.zq_ticketlock.specs.declared.errors.TryFault.TheVariants as try
use Rattle.zq_ticketlock.specs.declared.held.Held.{Held}
use Rattle.zq_ticketlock.specs.declared.turns.Entry.{Entry}

-- ---- in one heap

-- the greater of two stamps is the last one where one of them is
pub last_of : (floor stamp : ℕ) → LAST_STAMP ≤ max floor stamp → (LAST_STAMP ≤ floor) ⊎ (LAST_STAMP ≤ stamp)
last_of floor stamp most = elim (cases_lt floor LAST_STAMP) [ inl low ↦ inr (omega (arith, most, low)) | inr high ↦ inl high ]

-- a seat that has put such a value home
pub worn_by : (floor stamp high : ℕ) (value : LockedHeap) (o : Option LockedHeap) → LAST_STAMP ≤ max floor stamp → value.book.stamp ≡ stamp → o ≡ Some value → (LAST_STAMP ≤ floor) ⊎ IsAtLast high o
worn_by floor stamp high value o most is saw = elim (last_of floor stamp most) [ inl low ↦ inl low | inr here ↦ inr (inr (value, saw, omega (arith, here, is))) ]

-- a busy lock is not exhausted
pub held_elsewhere : (fault : TryFault) (low high : ℕ) → (fault ≡ try.Worn) ↔ (last_ticket ≤ low) → fault ≡ try.Busy → low < high → IsHeldElsewhere low high
held_elsewhere fault low high worn busy later = (not_last (cases_lt low last_ticket), later)
  where
    not_both : fault ≡ try.Worn → ⊥
    not_both e = cc

    not_last : (low < last_ticket) ⊎ (last_ticket ≤ low) → low < last_ticket
    not_last (inl is) = is
    not_last (inr last) = absurd (not_both (worn.1 last))

-- what the lock's fault says to a call
pub unlocked_by : (fault : TryFault) (s : Stop) (low high : ℕ) → s ≡ stop_of fault → (fault ≡ try.Worn) ↔ (last_ticket ≤ low) → low ≤ high → (fault ≡ try.Busy → low < high) → IsUnlocked s low high
unlocked_by try.Worn s low high is worn last busy = subst (λ t. IsUnlocked t low high) (sym is) (let found = worn.0 refl in omega (arith, found, last))
unlocked_by try.Busy s low high is worn last busy = subst (λ t. IsUnlocked t low high) (sym is) (held_elsewhere try.Busy low high worn refl (busy refl))

pub unbegun_by : (fault : TryFault) (floor low high : ℕ) (o : Option LockedHeap) → (fault ≡ try.Worn) ↔ (last_ticket ≤ low) → low ≤ high → (fault ≡ try.Busy → low < high) → IsUnbegun fault floor low high o
unbegun_by try.Worn floor low high o worn last busy = inr (inl (let found = worn.0 refl in omega (arith, found, last)))
unbegun_by try.Busy floor low high o worn last busy = held_elsewhere try.Busy low high worn refl (busy refl)

-- what it says to who holds a heap
pub hold_worn : (fault : TryFault) (f : HoldFault) (low found : ℕ) → f ≡ hold_of fault → found ≡ low → (fault ≡ try.Worn) ↔ (last_ticket ≤ low) → (f ≡ hold.Worn) ↔ (last_ticket ≤ found)
hold_worn try.Worn f low found is same worn = (λ e. subst (λ n. last_ticket ≤ n) (sym same) (worn.0 refl), λ last. is)
hold_worn try.Busy f low found is same worn = (λ e. absurd (apart (sym is ∙ e)), λ last. absurd (not_busy (worn.1 (subst (λ n. last_ticket ≤ n) same last))))
  where
    apart : hold.Busy ≡ hold.Worn → ⊥
    apart e = cc

    not_busy : try.Busy ≡ try.Worn → ⊥
    not_busy e = cc

pub hold_busy : (fault : TryFault) (f : HoldFault) (low high found drawn : ℕ) → f ≡ hold_of fault → found ≡ low → drawn ≡ high → (fault ≡ try.Busy → low < high) → f ≡ hold.Busy → found < drawn
hold_busy try.Worn f low high found drawn is from to busy e = absurd (apart (sym is ∙ e))
  where
    apart : hold.Worn ≡ hold.Busy → ⊥
    apart e = cc
hold_busy try.Busy f low high found drawn is from to busy e = let later = busy refl in omega (arith, from, to, later)

-- a pass whose seat came back has found what the seat has
pub found_last : (floor h : ℕ) (pass : Pass) (high : ℕ) (o : Option LockedHeap) → reached_at pass h ≡ high → seen_at pass h ≡ o → (LAST_STAMP ≤ floor) ⊎ IsAtLast high o → HasFoundLast floor (h ∷ []) pass
found_last floor h pass high o there saw (inl low) = inl low
found_last floor h pass high o there saw (inr at) = inr (h, inl refl, subst (λ s. IsAtLast (reached_at pass h) s) (sym saw) (subst (λ n. IsAtLast n o) (sym there) at))

pub refused_in : (fault : TryFault) (before after : Pass) (h low high : ℕ) (o : Option LockedHeap) → IsStopped before after → served_at after h ≡ low → reached_at after h ≡ high → seen_at after h ≡ o →
    IsUnbegun fault before.stamp low high o → IsRefusedIn fault (h ∷ []) before after
refused_in try.Worn before after h low high o stopped from there saw why = (stopped, found_last before.stamp h after high o there saw why)
refused_in try.Busy before after h low high o stopped from there saw why =
    (stopped, (h, inl refl, subst (λ n. IsHeldElsewhere n (reached_at after h)) (sym from) (subst (λ n. IsHeldElsewhere low n) (sym there) why)))

-- ---- in several heaps

-- a heap that was passed over, and then held again so often
pub passed_on : (key : List ℕ) (later : List (Entry LockedHeap)) (p q r : Pass) (h : ℕ) → turns_at r h ≡ later ++ turns_at q h → IsPassedOver key [] p q h → IsPassedOver key later p r h
passed_on key later p q r h turns over = record { given = over.given; none = over.none; ticket = over.ticket; turns = turns ∙ ap (λ l. later ++ l) over.turns }

-- in none
pub stop_none : (floor : ℕ) (enough : Bool) (heaps key : List ℕ) (p : Pass) (r : Result ℕ Stop) → heaps ≡ [] → (IsErrOf r stop.Nothing → enough ≡ false) → (IsErrOf r stop.Worn → LAST_STAMP ≤ floor) →
    (IsErrOf r stop.Busy → ⊥) → IfErr r (IsStopOf floor enough heaps key p p)
stop_none floor enough heaps key p (Ok n) empty nothing worn free = tt
stop_none floor enough heaps key p (Err stop.Worn) empty nothing worn free = inl (worn refl)
stop_none floor enough heaps key p (Err stop.Busy) empty nothing worn free = absurd (free refl)
stop_none floor enough heaps key p (Err stop.Nothing) empty nothing worn free = (nothing refl, λ h here. absurd (subst (IsIn h) empty here))

-- the first was not locked
pub stop_first : (floor : ℕ) (enough : Bool) (h : ℕ) (heaps key : List ℕ) (p q : Pass) (s : Stop) → IsUnlocked s (served_at q h) (reached_at q h) → IsStopOf floor enough (h ∷ heaps) key p q s
stop_first floor enough h heaps key p q stop.Worn why = inr (h, inl refl, inl why)
stop_first floor enough h heaps key p q stop.Busy why = (h, inl refl, why)
stop_first floor enough h heaps key p q stop.Nothing why = absurd why

-- and the fault is handed on by `?`
pub stop_handed : {A : Type 0} (floor : ℕ) (enough : Bool) (h : ℕ) (heaps key all : List ℕ) (p q : Pass) (r : Result A Stop) (s : Stop) → all ≡ h ∷ heaps → IsErrAnd r (λ e. e ≡ s) →
    IsUnlocked s (served_at q h) (reached_at q h) → IfErr r (IsStopOf floor enough all key p q)
stop_handed floor enough h heaps key all p q (Ok x) s cut is why = absurd is
stop_handed floor enough h heaps key all p q (Err e) s cut is why =
    subst (λ l. IsStopOf floor enough l key p q e) (sym cut) (stop_first floor enough h heaps key p q e (subst (λ t. IsUnlocked t (served_at q h) (reached_at q h)) (sym is) why))

pub free_handed : {A : Type 0} (r : Result A Stop) (s : Stop) → IsErrAnd r (λ e. e ≡ s) → (s ≡ stop.Busy → ⊥) → IsErrOf r stop.Busy → ⊥
free_handed (Ok x) s is free busy = absurd is
free_handed (Err e) s is free busy = let same : e ≡ stop.Busy = cc in free (sym is ∙ same)

-- the call stopped in the others, and then the first was put home
module _ (site : Site) (h : ℕ) (heaps : List ℕ) (are : AreHeapsOf site (h ∷ heaps)) where
  others_apart : (k : ℕ) → IsIn k heaps → IsIn k (h ∷ []) → ⊥
  others_apart k here is = elim is [ inl same ↦ (let low = are.1 k here in absurd (omega (arith, same, low))) | inr none ↦ absurd none ]

  pub stop_more : (p q m n : Pass) (value : LockedHeap) (floor next : ℕ) (enough more : Bool) (key : List ℕ) (s : Stop) → IsSameOutside (h ∷ []) p q → IsSameOutside (h ∷ []) m n → seen_at n h ≡ Some value →
      HasTurn value value (turns_at n h) (turns_at p h) → next ≡ max floor value.book.stamp → (more ≡ false → (enough ≡ false) × (length (queue_at (state_of value.book) key) ≡ 0)) →
      IsStopOf next more heaps key q m s → IsStopOf floor enough (h ∷ heaps) key p n s
  stop_more p q m n value floor next enough more key stop.Worn first last seen turn greatest none (inl high) =
      elim (last_of floor value.book.stamp (subst (λ k. LAST_STAMP ≤ k) greatest high)) [ inl low ↦ inl low | inr here ↦ inr (h, inl refl, inr (value, seen, here)) ]
  stop_more p q m n value floor next enough more key stop.Worn first last seen turn greatest none (inr there) =
      inr (there.0, inr there.1, subst (λ s. IsAtLast (reached_in s) (seen_in s)) (sym (last.seats there.0 (others_apart there.0 there.1))) there.2)
  stop_more p q m n value floor next enough more key stop.Busy first last seen turn greatest none why =
      (why.0, inr why.1, subst (λ s. IsHeldElsewhere (served_in s) (reached_in s)) (sym (last.seats why.0 (others_apart why.0 why.1))) why.2)
  stop_more p q m n value floor next enough more key stop.Nothing first last seen turn greatest none why =
      let both = none why.0 in (
        both.0,
        λ k is. elim is [
          | inl same ↦ subst (λ j. IsPassedOver key [] p n j) same (record { given = value; none = both.1; ticket = turn.0; turns = turn.1 })
          | inr here ↦ moved k here (why.1 k here)
        ],
      )
    where
      moved : (k : ℕ) → IsIn k heaps → IsPassedOver key [] q m k → IsPassedOver key [] p n k
      moved k here over =
          let one : turns_at n k ≡ turns_at m k = ap turns_in (last.seats k (others_apart k here)) in
          let other : turns_at q k ≡ turns_at p k = ap turns_in (first.seats k (others_apart k here)) in
          record { given = over.given; none = over.none; ticket = over.ticket; turns = one ∙ over.turns ∙ ap (λ l. entry over.ticket over.given over.given ∷ l) other }

  pub stop_on_more : (p q m n : Pass) (held : Held LockedHeap) (floor next : ℕ) (enough more : Bool) (key : List ℕ) (G : Type 0) (r s : Result ℕ Stop) → s ≡ r → IsSameOutside (h ∷ []) p q →
      IsSameOutside (h ∷ []) m n → OnErr r (G × HasSeatsIn site (h ∷ []) n × (seen_at n h ≡ Some (value_of held)) × HasTurn (value_of held) (value_of held) (turns_at n h) (held_logged held)) →
      held_logged held ≡ turns_at p h → next ≡ max floor (value_of held).book.stamp → (more ≡ false → (enough ≡ false) × (length (queue_at (state_of (value_of held).book) key) ≡ 0)) →
      IfErr r (IsStopOf next more heaps key q m) → IfErr s (IsStopOf floor enough (h ∷ heaps) key p n)
  stop_on_more p q m n held floor next enough more key G (Ok stamp) s same first last home turns greatest none why = subst (λ o. IfErr o (IsStopOf floor enough (h ∷ heaps) key p n)) (sym same) tt
  stop_on_more p q m n held floor next enough more key G (Err fault) s same first last home turns greatest none why =
      let value : LockedHeap = value_of held in
      subst (λ o. IfErr o (IsStopOf floor enough (h ∷ heaps) key p n)) (sym same)
      (stop_more p q m n value floor next enough more key fault first last home.2 (subst (λ l. HasTurn value value (turns_at n h) l) turns home.3) greatest none why)
