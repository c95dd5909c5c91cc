-- Calls in one heap.

use Rattle.std.proofs.Common.{ap, arith, inl, subst, sym, ◌∙◌}
use Rattle.std.proofs.Math.Nat.{le-max_right, max-zero}
use Rattle.std.specs.Prelude.{Err, IfOk, IfSome, IsErrOf, IsSome, List, Ok, OnErr, OnOk, Option, Result, Some, [], false, max, refl, slice_get, true, ℕ, ◌+◌, ◌++◌, ◌<◌, ◌≡◌, ◌≢◌, ◌≤◌, ◌∷◌, ◌↔◌}
use Rattle.zq_dots.specs.Placed.{Placed}
use Rattle.zq_dots.specs.Rule.{rule_of}
use Rattle.zq_model.specs.Books.{Book, Merged, Step, TookOver}
use Rattle.zq_model.specs.Reach as reach
use Rattle.zq_model.specs.Reach.{IsWorked}
use Rattle.zq_journal.specs.Books.{LAST_STAMP, state_of, steps_taken, steps_when}
use Rattle.zq_journal.specs.declared.faults.MergeFault.{MergeFault}
use Rattle.zq_journal.specs.declared.faults.MergeFault.TheVariants as unmerged
use Rattle.zq_journal.specs.declared.faults.TakeOverFault.{TakeOverFault}
use Rattle.zq_journal.specs.declared.faults.TakeOverFault.TheVariants as kept
use Rattle.zq_journal.specs.declared.faults.TakeFault.{TakeFault}
use Rattle.zq_journal.specs.declared.faults.TakeFault.TheVariants.{NoMemory, WrongHeap, Worn}
use Rattle.zq_model.specs.Heaps.{heap_of}
use Rattle.zq_model.specs.Sets as sets
use Rattle.zq_posheap.proofs.Lists.{there_is}
use Rattle.zq_shard.specs.Shard.{HeapImage, IsOfHeap, IsSameHeap}
use Rattle.zq_shard.specs.Taken.{answer_of}
use Rattle.zq_shard.specs.declared.taken.Taken.{Taken}
use Rattle.zq_spread.proofs.Counted.{if_some}
use Rattle.zq_spread.proofs.LeftAsGiven.{worked_once}
use Rattle.zq_spread.specs.Answers.{HasWorked, IsMerged, IsTaken, IsTakenOver}
use Rattle.zq_spread.specs.Calls.{IsCall, IsLikeSite, IsOfSite, heaps_of}
use Rattle.zq_spread.specs.Passes.{IsSlotAt, seen_at, steps_at}
use Rattle.zq_spread.specs.HeapSlots.{IsBegun, IsOf, IsWorkedOn}
use Rattle.zq_spread.specs.Turns.{HasTurn, turns_at}
use Rattle.zq_spread.specs.Worn.{IsBusyIn, IsWornIn}
use Rattle.zq_spread.specs.declared.locked_heap.LockedHeap.{LockedHeap}
use Rattle.zq_spread.specs.declared.pass.Pass.{Pass}
use Rattle.zq_spread.specs.declared.heap_slot.HeapSlot.{HeapSlot}
use Rattle.zq_spread.specs.declared.site.Site.{Site}
use Rattle.zq_ticketlock.proofs.Told.{seen_some}
use Rattle.zq_ticketlock.specs.Seats.{given, held_logged, value_of}
use Rattle.zq_ticketlock.specs.declared.held.Held.{Held}

-- a call's work begins with a cut and a stamp
pub work_starts : (a : Book) (stamp : ℕ) → IsWorked (reach.begun stamp a) a stamp []
work_starts a stamp = record {
  heap = refl;
  heaps = refl;
  rule = refl;
  limits = refl;
  handed = refl;
  legal = refl;
  state = refl;
  own = refl;
  stamp_is = refl;
  count = omega arith;
  is = refl;
}

-- what a book answers to an operation is what a call answers
pub taken_by : (old new a : Book) (stamp : ℕ) (p : Placed) (r : Result Taken TakeFault) → IsOfHeap (state_of old) p →
    IsErrOf r WrongHeap ↔ (IsOfHeap (state_of old) p → ⊥) → IfOk r (λ taken. answer_of taken ≡ sets.taken_of old.state.vector p.operation) →
    IsErrOf r Worn ↔ (IsOfHeap (state_of old) p × (sets.taken_of old.state.vector p.operation ≡ sets.New) × (old.count ≡ LAST_STAMP)) →
    (IsErrOf r NoMemory → sets.taken_of old.state.vector p.operation ≡ sets.New) →
    OnOk r ((b : Book) (steps : List Step) → IsWorked old b stamp steps → IsWorked new b stamp (steps ++ steps_taken old stamp p.operation)) →
    OnErr r (new ≡ old) → IsWorked old a stamp [] → HasWorked (IsTaken stamp p r) new a stamp
taken_by old new a stamp p (Ok taken) of wrong judged worn short worked stays begun =
    let same : old.state.vector ≡ a.state.vector = ap (λ s. s.vector) begun.state in (
      steps_taken old stamp p.operation,
      worked a [] begun,
      (judged ∙ ap (λ v. sets.taken_of v p.operation) same, ap (λ v. steps_when (sets.taken_of v p.operation) stamp p.operation) same),
    )
taken_by old new a stamp p (Err WrongHeap) of wrong judged worn short worked stays begun = absurd (wrong.0 refl of)
taken_by old new a stamp p (Err Worn) of wrong judged worn short worked stays begun =
    let same : old.state.vector ≡ a.state.vector = ap (λ s. s.vector) begun.state in
    let why = worn.0 refl in
    let count : a.count ≡ LAST_STAMP = let e = begun.count in omega (arith, why.2, e) in
    ([], subst (λ b. IsWorked b a stamp []) (sym stays) begun, (ap (λ v. sets.taken_of v p.operation) (sym same) ∙ why.1, count, refl))
taken_by old new a stamp p (Err NoMemory) of wrong judged worn short worked stays begun =
    let same : old.state.vector ≡ a.state.vector = ap (λ s. s.vector) begun.state in
    ([], subst (λ b. IsWorked b a stamp []) (sym stays) begun, (ap (λ v. sets.taken_of v p.operation) (sym same) ∙ short refl, refl))

-- what a book answers to another heap is what a call answers
pub merged_by : (old new a : Book) (stamp : ℕ) (s : HeapImage) (r : Result (Unit {0}) MergeFault) → IsSameHeap (state_of old) s → old.rule ≡ s.rule →
    IsErrOf r unmerged.Worn ↔ (IsSameHeap (state_of old) s × (old.rule ≡ s.rule) × (old.count ≡ LAST_STAMP)) →
    IsErrOf r unmerged.WrongHeap ↔ (IsSameHeap (state_of old) s → ⊥) → IsErrOf r unmerged.WrongRule ↔ (IsSameHeap (state_of old) s × (old.rule ≢ s.rule)) →
    OnOk r ((b : Book) (steps : List Step) → IsWorked old b stamp steps → IsWorked new b stamp (steps ++ Merged stamp s.image ∷ [])) →
    OnErr r (new ≡ old) → IsWorked old a stamp [] → HasWorked (IsMerged stamp s r) new a stamp
merged_by old new a stamp s (Ok done) same rule worn heap other worked stays begun =
    let count : old.count ≡ a.count = let e = begun.count in omega (arith, e) in
    let not_worn : a.count ≢ LAST_STAMP = λ last. let e = worn.1 (same, rule, count ∙ last) in absurd (cc) in
    (Merged stamp s.image ∷ [], worked a [] begun, (not_worn, refl))
merged_by old new a stamp s (Err unmerged.WrongHeap) same rule worn heap other worked stays begun = absurd (heap.0 refl same)
merged_by old new a stamp s (Err unmerged.WrongRule) same rule worn heap other worked stays begun = absurd ((other.0 refl).1 rule)
merged_by old new a stamp s (Err unmerged.Worn) same rule worn heap other worked stays begun =
    let why = worn.0 refl in
    let count : a.count ≡ LAST_STAMP = let e = begun.count in omega (arith, why.2, e) in
    ([], subst (λ b. IsWorked b a stamp []) (sym stays) begun, (count, refl))
merged_by old new a stamp s (Err unmerged.NoMemory) same rule worn heap other worked stays begun =
    let count : old.count ≡ a.count = let e = begun.count in omega (arith, e) in
    let not_worn : a.count ≢ LAST_STAMP = λ last. let e = worn.1 (same, rule, count ∙ last) in absurd (cc) in
    ([], subst (λ b. IsWorked b a stamp []) (sym stays) begun, (not_worn, refl))

-- and what it answers to one that is to take its heap's place
pub taken_over_by : (old new a : Book) (stamp : ℕ) (s : HeapImage) (r : Result (Unit {0}) TakeOverFault) → IsSameHeap (state_of old) s → old.rule ≡ s.rule →
    IsErrOf r kept.Worn ↔ (IsSameHeap (state_of old) s × (old.rule ≡ s.rule) × (old.count ≡ LAST_STAMP)) →
    IsErrOf r kept.WrongHeap ↔ (IsSameHeap (state_of old) s → ⊥) → IsErrOf r kept.WrongRule ↔ (IsSameHeap (state_of old) s × (old.rule ≢ s.rule)) →
    (IsErrOf r kept.Lacks → sets.covers s.image.vector old.state.vector ≡ false) → OnOk r (sets.covers s.image.vector old.state.vector ≡ true) →
    OnOk r ((b : Book) (steps : List Step) → IsWorked old b stamp steps → IsWorked new b stamp (steps ++ TookOver stamp s.image ∷ [])) →
    OnErr r (new ≡ old) → IsWorked old a stamp [] → HasWorked (IsTakenOver stamp s r) new a stamp
taken_over_by old new a stamp s (Ok done) same rule worn heap other lacks covered worked stays begun =
    let count : old.count ≡ a.count = let e = begun.count in omega (arith, e) in
    let not_worn : a.count ≢ LAST_STAMP = λ last. let e = worn.1 (same, rule, count ∙ last) in absurd (cc) in
    (TookOver stamp s.image ∷ [], worked a [] begun, (ap (λ b. sets.covers s.image.vector b.vector) (sym begun.state) ∙ covered, not_worn, refl))
taken_over_by old new a stamp s (Err kept.WrongHeap) same rule worn heap other lacks covered worked stays begun = absurd (heap.0 refl same)
taken_over_by old new a stamp s (Err kept.WrongRule) same rule worn heap other lacks covered worked stays begun = absurd ((other.0 refl).1 rule)
taken_over_by old new a stamp s (Err kept.Worn) same rule worn heap other lacks covered worked stays begun =
    let why = worn.0 refl in
    let count : a.count ≡ LAST_STAMP = let e = begun.count in omega (arith, why.2, e) in
    ([], subst (λ b. IsWorked b a stamp []) (sym stays) begun, (count, refl))
taken_over_by old new a stamp s (Err kept.Lacks) same rule worn heap other lacks covered worked stays begun =
    ([], subst (λ b. IsWorked b a stamp []) (sym stays) begun, (ap (λ b. sets.covers s.image.vector b.vector) (sym begun.state) ∙ lacks refl, refl))

-- the heap of an operation of the site, where a call has begun
pub begun_of_heap : (site : Site) (slot : HeapSlot) (h floor stamp : ℕ) (p : Placed) (now found : LockedHeap) → IsSlotAt site h slot → IsWorked now.book found.book stamp [] → IsOf slot found →
    IsOfSite site p → p.operation.heap ≡ h → IsOfHeap (state_of now.book) p
begun_of_heap site slot h floor stamp p now found at worked of is here =
    let heap : now.book.heap ≡ h = worked.heap ∙ of.heap ∙ at.0 in
    let heaps : now.book.heaps ≡ p.heaps = worked.heaps ∙ of.heaps ∙ at.1 ∙ sym is.heaps in
    record {
      heap = here ∙ sym heap;
      heaps = sym heaps;
      placed = ap (λ n. heap_of p.operation.key p.operation.member n) heaps ∙ is.placed ∙ here ∙ sym heap;
    }

-- and another heap that is like the site's
pub begun_same_heap : (site : Site) (slot : HeapSlot) (h stamp : ℕ) (s : HeapImage) (now found : LockedHeap) → IsSlotAt site h slot → IsWorked now.book found.book stamp [] → IsOf slot found →
    IsLikeSite site s → s.heap ≡ h → IsSameHeap (state_of now.book) s
begun_same_heap site slot h stamp s now found at worked of is here =
    record { heap = worked.heap ∙ of.heap ∙ at.0 ∙ sym here; heaps = worked.heaps ∙ of.heaps ∙ at.1 ∙ sym is.heaps }

pub begun_same_rule : (site : Site) (slot : HeapSlot) (h stamp : ℕ) (s : HeapImage) (now found : LockedHeap) → IsSlotAt site h slot → IsWorked now.book found.book stamp [] → IsOf slot found →
    IsLikeSite site s → now.book.rule ≡ s.rule
begun_same_rule site slot h stamp s now found at worked of is = worked.rule ∙ of.rule ∙ ap rule_of at.2 ∙ sym is.rule

-- a call that has worked in its one heap may end there
pub may_end : (Does : List Book → List (List Step) → Type 0) (slot : HeapSlot) (before : Option LockedHeap) (floor stamp : ℕ) (begun now found : LockedHeap) → IsBegun slot before floor stamp begun found →
    HasWorked Does now.book found.book stamp → now.total ≡ begun.total → IsWorkedOn slot now found
may_end Does slot before floor stamp begun now found is done total = record {
  home = is.home;
  of = is.of;
  stamp = stamp;
  later = let next = is.next in let above : found.book.stamp ≤ max floor found.book.stamp = le-max_right floor found.book.stamp in omega (arith, next, above);
  steps = done.0;
  worked = done.1;
  total = total ∙ is.total;
}

-- and then it is a call
pub one_call : (Does : List Book → List (List Step) → Type 0) (slot : HeapSlot) (old mid new : Pass) (h stamp : ℕ) (begun now found : LockedHeap) → IsBegun slot (seen_at old h) old.stamp stamp begun found →
    HasWorked Does now.book found.book stamp → new.stamp ≡ stamp → ((left : LockedHeap) × (seen_at new h ≡ Some left) × (left.book ≡ now.book) × HasTurn found left (turns_at new h) (turns_at old h)) →
    steps_at new h + found.book.count ≡ steps_at mid h + now.book.count → ((k : ℕ) → (k ≡ h → ⊥) → (seen_at mid k ≡ seen_at old k) × (turns_at mid k ≡ turns_at old k)) →
    ((k : ℕ) → steps_at mid k ≡ steps_at old k) →
    ((k : ℕ) → (k ≡ h → ⊥) → (seen_at new k ≡ seen_at mid k) × (steps_at new k ≡ steps_at mid k) × (turns_at new k ≡ turns_at mid k)) → IsCall Does old new (h ∷ [])
one_call Does slot old mid new h stamp begun now found is done stamped left counted others steps stay = record {
  found = found ∷ [];
  left = left.0 ∷ [];
  steps = done.0 ∷ [];
  next = stamped ∙ is.next ∙ ap (λ n. max old.stamp n + 1) (sym (max-zero found.book.stamp));
  worked = (
    record {
      follows = is.follows;
      worked = subst (λ b. IsWorked b found.book new.stamp done.0) (sym left.2) (subst (λ n. IsWorked now.book found.book n done.0) (sym stamped) done.1);
      seen = left.1;
      own = let made = done.1.count in let before = steps h in omega (arith, counted, made, before);
      turn = worked_once found left.0 (turns_at new h) (turns_at old h) left.3;
    },
    tt,
  );
  others = λ k out. let apart : k ≡ h → ⊥ = λ e. out (inl (sym e)) in ((stay k apart).0 ∙ (others k apart).0, (stay k apart).1 ∙ steps k, (stay k apart).2 ∙ (others k apart).1);
  done = done.2;
}

-- in each slot of this number, the call has begun on the value that was given
abbrev pub IsBegunIn : Site → Pass → ℕ → ℕ → Held LockedHeap → Type 0
IsBegunIn site old h stamp held = (slot : HeapSlot) → slice_get site.slots.items h ≡ Some slot → IfSome (given held) (IsBegun slot (seen_at old h) old.stamp stamp (value_of held))

-- what a call has found
pub begun_on : (site : Site) (old : Pass) (h stamp : ℕ) (held : Held LockedHeap) → h < heaps_of site → IsSome (given held) → IsBegunIn site old h stamp held →
    (slot : HeapSlot) × (slice_get site.slots.items h ≡ Some slot) × (found : LockedHeap) × (given held ≡ Some found) × IsBegun slot (seen_at old h) old.stamp stamp (value_of held) found
begun_on site old h stamp held within some begun =
    let slot = there_is site.slots.items h within in
    let found = seen_some (IsBegun slot.0 (seen_at old h) old.stamp stamp (value_of held)) (given held) some (begun slot.0 slot.1) in
    (slot.0, slot.1, found.0, found.1, found.2)

-- what the work of a call says of the value that it left
abbrev pub DoesWork : (List Book → List (List Step) → Type 0) → ℕ → Held LockedHeap → LockedHeap → Type 0
DoesWork Does stamp held now = (a : Book) → IsWorked (value_of held).book a stamp [] → HasWorked Does now.book a stamp

-- a call that began and worked may end
pub may_end_in : (Does : List Book → List (List Step) → Type 0) (site : Site) (old : Pass) (h stamp : ℕ) (held : Held LockedHeap) (now : LockedHeap) → IsBegunIn site old h stamp held →
    DoesWork Does stamp held now → now.total ≡ (value_of held).total →
    (slot : HeapSlot) → slice_get site.slots.items h ≡ Some slot → IfSome (given held) (IsWorkedOn slot now)
may_end_in Does site old h stamp held now begun works total = λ slot at.
    if_some (given held) (λ found is. may_end Does slot (seen_at old h) old.stamp stamp (value_of held) now found is (works found.book is.worked) total) (begun slot at)

-- and where it ended, it is a call
pub called_in : (Does : List Book → List (List Step) → Type 0) (site : Site) (old mid new : Pass) (h stamp : ℕ) (held : Held LockedHeap) (now : LockedHeap) → h < heaps_of site →
    IsSome (given held) → IsBegunIn site old h stamp held → DoesWork Does stamp held now → new.stamp ≡ stamp →
    ((left : LockedHeap) × (seen_at new h ≡ Some left) × (left.book ≡ now.book) × IfSome (given held) (λ found. HasTurn found left (turns_at new h) (held_logged held))) →
    IfSome (given held) (λ found. steps_at new h + found.book.count ≡ steps_at mid h + now.book.count) →
    ((k : ℕ) → (k ≡ h → ⊥) → (seen_at mid k ≡ seen_at old k) × (turns_at mid k ≡ turns_at old k)) → ((k : ℕ) → steps_at mid k ≡ steps_at old k) →
    ((k : ℕ) → (k ≡ h → ⊥) → (seen_at new k ≡ seen_at mid k) × (steps_at new k ≡ steps_at mid k) × (turns_at new k ≡ turns_at mid k)) → held_logged held ≡ turns_at old h → IsCall Does old new (h ∷ [])
called_in Does site old mid new h stamp held now within some begun works stamped left counted others steps stay turns =
    let is = begun_on site old h stamp held within some begun in
    let here : steps_at new h + is.2.book.count ≡ steps_at mid h + now.book.count =
    subst (λ o. IfSome o (λ (x : LockedHeap). steps_at new h + x.book.count ≡ steps_at mid h + now.book.count)) is.3 counted in
    let turn : HasTurn is.2 left.0 (turns_at new h) (turns_at old h) =
    subst (λ l. HasTurn is.2 left.0 (turns_at new h) l) turns (subst (λ o. IfSome o (λ (x : LockedHeap). HasTurn x left.0 (turns_at new h) (held_logged held))) is.3 left.3) in
    one_call Does is.0 old mid new h stamp (value_of held) now is.2 is.4 (works is.2.book is.4.worked) stamped (left.0, left.1, left.2, turn) here others steps stay

-- the heap of a refused call, by its number
pub worn_in : (before after : Pass) (h k : ℕ) → h ≡ k → IsWornIn (h ∷ []) before after → IsWornIn (k ∷ []) before after
worn_in before after h k same worn = subst (λ j. IsWornIn (j ∷ []) before after) same worn

pub busy_in : (before after : Pass) (h k : ℕ) → h ≡ k → IsBusyIn (h ∷ []) before after → IsBusyIn (k ∷ []) before after
busy_in before after h k same busy = subst (λ j. IsBusyIn (j ∷ []) before after) same busy
