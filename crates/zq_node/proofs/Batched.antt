-- How a node goes on with a list of operations.

use Rattle.std.proofs.Common.{ap, arith, inl, inr, refl, subst, suc, sym, zero, ◌∙◌}
use Rattle.std.proofs.Math.Seq.{take-append_seam}
use Rattle.std.proofs.lemmas.List.{append_assoc, length-append, take-append-drop}
use Rattle.std.specs.Prelude.{IfSome, List, None, Option, Some, [], drop, length, slice_get, take, true, ℕ, ◌+◌, ◌++◌, ◌<◌, ◌≡◌, ◌≢◌, ◌≤◌, ◌∷◌, ◌⊎◌}
use Rattle.zq_dots.specs.Placed.{Placed}
use Rattle.zq_journal.specs.Books.{state_of}
use Rattle.zq_journal.specs.declared.faults.TakeFault.TheVariants as unheld
use Rattle.zq_model.proofs.Membership.{in_left, in_union}
use Rattle.zq_model.specs.Books.{Book, Step, are_steps_over, steps_image}
use Rattle.zq_model.specs.Heaps.{heap_of}
use Rattle.zq_model.specs.Image.{Image}
use Rattle.zq_model.specs.Operation.{has}
use Rattle.zq_model.specs.Sets as sets
use Rattle.zq_model.specs.Sets.{IsIn, taken_of}
use Rattle.zq_node.proofs.Called.{IsAlone, alone, no_step_by}
use Rattle.zq_node.proofs.Changed.{put_found, put_heard, put_keeps}
use Rattle.zq_node.proofs.Grown.{all_known}
use Rattle.zq_node.proofs.Nodes.{home_site, none_in, only_stopped, parked_work, stays_there, stopped_more, then_worked, worked_more}
use Rattle.zq_node.proofs.Works.{idle}
use Rattle.zq_node.specs.Batches.{HasHeardSome, IsKept, IsNotPutOff, IsPutOff, IsStopBefore, WasLeftOut, WasStoppedIn}
use Rattle.zq_node.specs.Calls.{IsEarlyTo, IsKnownTo, MadeNoStep, TookAll}
use Rattle.zq_node.specs.Faults.{IsOwnFault, untaken}
use Rattle.zq_node.specs.Node.{IsSameHome, most_of, parked_of, pass_of, site_of}
use Rattle.zq_node.specs.Parked.{Entries, IsPutAway}
use Rattle.zq_node.specs.Work.{HasWorked, IsOwed, IsWork, WasStopped}
use Rattle.zq_node.specs.declared.faults.NodeFault.{NodeFault}
use Rattle.zq_node.specs.declared.faults.NodeFault.TheVariants as node
use Rattle.zq_node.specs.declared.node.Node.{Node}
use Rattle.zq_posheap.proofs.Lists.{there_is}
use Rattle.zq_shard.specs.Shard.{HeapImage, IsOfHeap}
use Rattle.zq_spread.specs.Batches.{AreTaken, EndsAt, IsNotTaken, IsTakenAll, IsTakenSoFar, heap_after, heap_after_all, judged_at, steps_of_all}
use Rattle.zq_spread.specs.Calls.{IsCall, IsOfSite, heaps_of}
use Rattle.zq_spread.specs.HeapSlots.{IsOf}
use Rattle.zq_spread.specs.Passes.{IsPassOf, IsSeatOf, seen_at, seen_in}
use Rattle.zq_spread.specs.declared.heap_slot.HeapSlot.{HeapSlot}
use Rattle.zq_spread.specs.declared.locked_heap.LockedHeap.{LockedHeap}
use Rattle.zq_spread.specs.declared.pass.Pass.{Pass}
use Rattle.zq_spread.specs.declared.site.Site.{Site}
use Rattle.zq_spread.specs.declared.taken_all.TakeEnd.{TakeEnd}
use Rattle.zq_spread.specs.declared.taken_all.TakeEnd.TheVariants as ends
use Rattle.zq_spread.specs.declared.taken_all.TakenAll.{TakenAll}
use Rattle.zq_ticketlock.specs.declared.seat.Seat.{Seat}

-- ---- the book of a heap that a pass has seen

of_seat : (slot : HeapSlot) (o : Option (Option (Seat LockedHeap))) (x : LockedHeap) → IsSeatOf slot o → seen_in o ≡ Some x → IsOf slot x
of_seat slot (Some (Some seat)) x is seen = subst (λ o. IfSome o (IsOf slot)) seen is.1
of_seat slot (Some None) x is seen = absurd is
of_seat slot None x is seen = absurd is

book_seen : (site : Site) (pass : Pass) (h : ℕ) (x : LockedHeap) → IsPassOf site pass → h < heaps_of site → seen_at pass h ≡ Some x → (x.book.heap ≡ h) × (x.book.heaps ≡ heaps_of site)
book_seen site pass h x is below seen =
    let slot = there_is site.slots.items h below in
    let at = is.slots h slot.0 slot.1 in
    let of : IsOf slot.0 x = of_seat slot.0 (slice_get pass.seats.items h) x (is.seat h slot.0 slot.1) seen in
    (of.heap ∙ at.0, of.heaps ∙ at.1)

-- ---- a call that took operations in turn

none_long : (l : List Placed) → length l ≡ 0 → l ≡ []
none_long [] is = refl
none_long (x ∷ l) is = absurd (omega (arith, is))

at_heap : (ops : List Placed) (s : HeapImage) → AreTaken ops s → (p : Placed) → IsIn p ops → p.operation.heap ≡ s.heap
at_heap [] s are p here = absurd here
at_heap (x ∷ ops) s are p here = elim here [
  | inl same ↦ subst (λ (q : Placed). q.operation.heap ≡ s.heap) same are.0.heap
  | inr later ↦ at_heap ops (heap_after x s) are.2 p later
]

no_steps : (stamp : ℕ) (ops : List Placed) (answer : TakenAll) → answer.taken ≡ 0 → (b : Book) (steps : List Step) → IsTakenAll stamp ops answer (b ∷ []) (steps ∷ []) → steps ≡ []
no_steps stamp ops answer none b steps is = is.steps_are ∙ ap (λ l. steps_of_all stamp l (state_of b)) (none_long is.taken (let long = is.number in omega (arith, long, none)))

-- where it took none it made no step
pub idle_batch : (before after : Pass) (h : ℕ) (ops : List Placed) (answer : TakenAll) → answer.taken ≡ 0 → IsCall (IsTakenAll after.stamp ops answer) before after (h ∷ []) → MadeNoStep before after
idle_batch before after h ops answer none call = no_step_by (IsTakenAll after.stamp ops answer) before after h call (no_steps after.stamp ops answer none)

module _ (site : Site) (before after : Pass) (h : ℕ) (ops : List Placed) (answer : TakenAll) (is : IsPassOf site after) (below : h < heaps_of site) (call : IsCall (IsTakenAll after.stamp ops answer) before after (h ∷ [])) where
  abbrev one : IsAlone (IsTakenAll after.stamp ops answer) before after h
  one = alone (IsTakenAll after.stamp ops answer) before after h call

  abbrev so : IsTakenSoFar after.stamp ops answer (state_of one.found.book) one.found.book.count one.steps
  so = one.done

  abbrev s : HeapImage
  s = state_of one.found.book

  its : (s.heap ≡ h) × (s.heaps ≡ heaps_of site)
  its =
      let left = book_seen site after h one.left is below one.worked.seen in
      (sym one.worked.worked.heap ∙ left.0, sym one.worked.worked.heaps ∙ left.1)

  of_site_from : (p : Placed) → IsOfHeap s p → IsOfSite site p
  of_site_from p of = record {
    heaps = of.heaps ∙ its.1;
    placed = subst (λ k. heap_of p.operation.key p.operation.member k ≡ s.heap) (sym of.heaps) of.placed ∙ sym of.heap;
  }

  of_heap_from : (p : Placed) → IsOfSite site p → p.operation.heap ≡ h → IsOfHeap s p
  of_heap_from p of at = record {
    heap = at ∙ sym its.0;
    heaps = of.heaps ∙ sym its.1;
    placed = subst (λ k. heap_of p.operation.key p.operation.member k ≡ p.operation.heap) (of.heaps ∙ sym its.1) of.placed ∙ at ∙ sym its.0;
  }

  -- each that it took is known
  pub batch_known : (p : Placed) → IsIn p so.taken → IsKnownTo after p
  batch_known p here =
      let at : p.operation.heap ≡ h = at_heap so.taken s so.are p here ∙ its.0 in
      let state : one.left.book.state ≡ steps_image (steps_of_all after.stamp so.taken s) s.image = one.worked.worked.state ∙ ap (λ ss. steps_image ss s.image) so.steps_are in
      let over : are_steps_over s.heaps s.heap s.image (steps_of_all after.stamp so.taken s) ≡ true = subst (λ ss. are_steps_over s.heaps s.heap s.image ss ≡ true) so.steps_are one.worked.worked.legal in
      (one.left, ap (seen_at after) at ∙ one.worked.seen, subst (λ (a : Image). has a.vector p.operation.site p.operation.n ≡ true) (sym state) (all_known s.heaps s.heap after.stamp so.taken s over so.are p here))

  -- where it took none, the first was not taken
  pub first_not : (first : Placed) (others : List Placed) → ops ≡ first ∷ others → answer.taken ≡ 0 → (n : ℕ) × IsNotTaken answer.end first s n
  first_not first others split none =
      let empty : so.taken ≡ [] = none_long so.taken (let long = so.number in omega (arith, long, none)) in
      let left : so.left ≡ first ∷ others = sym (so.split ∙ ap (λ l. l ++ so.left) empty) ∙ split in
      let end : EndsAt answer.end (first ∷ others) (heap_after_all so.taken s) (one.found.book.count + length one.steps) = subst (λ l. EndsAt answer.end l (heap_after_all so.taken s) (one.found.book.count + length one.steps)) left so.end in
      (one.found.book.count + length one.steps, subst (λ l. IsNotTaken answer.end first (heap_after_all l s) (one.found.book.count + length one.steps)) empty end)

  pub not_all : (first : Placed) (others : List Placed) → ops ≡ first ∷ others → answer.taken ≡ 0 → answer.end ≡ ends.All → ⊥
  not_all first others split none all = let why = first_not first others split none in subst (λ e. IsNotTaken e first s why.0) all why.1

  pub early_site : (first : Placed) (others : List Placed) → ops ≡ first ∷ others → answer.taken ≡ 0 → answer.end ≡ ends.Early → IsOfSite site first
  early_site first others split none early =
      let why = first_not first others split none in
      of_site_from first (subst (λ e. IsNotTaken e first s why.0) early why.1).0

  pub early_first : (first : Placed) (others : List Placed) → ops ≡ first ∷ others → answer.taken ≡ 0 → answer.end ≡ ends.Early → IsEarlyTo after first
  early_first first others split none early =
      let why = first_not first others split none in
      let not = subst (λ e. IsNotTaken e first s why.0) early why.1 in
      let at : first.operation.heap ≡ h = not.0.heap ∙ its.0 in
      let nothing : one.steps ≡ [] = no_steps after.stamp ops answer none one.found.book one.steps one.done in
      let state : one.left.book.state ≡ one.found.book.state = one.worked.worked.state ∙ ap (λ ss. steps_image ss one.found.book.state) nothing in
      (one.left, ap (seen_at after) at ∙ one.worked.seen, ap (λ (a : Image). taken_of a.vector first.operation) state ∙ not.1)

  pub wrong_first : (first : Placed) (others : List Placed) → ops ≡ first ∷ others → answer.taken ≡ 0 → first.operation.heap ≡ h → answer.end ≡ ends.Refused unheld.WrongHeap → IsOfSite site first → ⊥
  wrong_first first others split none at wrong of =
      let why = first_not first others split none in
      (subst (λ e. IsNotTaken e first s why.0) wrong why.1) (of_heap_from first of at)

-- ---- what a node does with it

pub batch_work : (a b : Node) (h : ℕ) (ops all : List Placed) (answer : TakenAll) → parked_of b ≡ parked_of a → ((o : Placed) → IsIn o ops → IsIn o all) →
    IsCall (IsTakenAll (pass_of b).stamp ops answer) (pass_of a) (pass_of b) (h ∷ []) → HasWorked all a b
batch_work a b h ops all answer same within call =
    let work : IsWork (site_of a) all (parked_of a) (parked_of a) (pass_of a) (pass_of b) = record {
      calls = TookAll h ops answer ∷ [];
      called = (pass_of b, call, refl);
      only = λ c here. elim here [ inl is ↦ subst (IsOwed all (parked_of a)) is within | inr none ↦ absurd none ];
      kept = λ o here. inl here;
      found = λ o here. inl here;
    } in
    subst (λ (e : Entries). IsWork (site_of a) all (parked_of a) e (pass_of a) (pass_of b)) (sym same) work

-- ---- what was heard

module _ (ops : List Placed) where
  -- stays heard after more work
  kept_on : (a b c : Node) (o : Placed) → IsSameHome a b → HasWorked ops b c → IsKept ops a b o → IsKept ops a c o
  kept_on a b c o same work (inl known) = elim (stays_there ops b c o work (inl known)) [ inl still ↦ inl still | inr parked ↦ inr (inl parked) ]
  kept_on a b c o same work (inr (inl parked)) = elim (stays_there ops b c o work (inr parked)) [ inl known ↦ inl known | inr still ↦ inr (inl still) ]
  kept_on a b c o same work (inr (inr out)) = inr (inr (record {
    found = out.found;
    home = out.home;
    first = out.first;
    rest = then_worked ops out.found b c (same ∙ sym out.home) out.rest work;
    early = out.early;
    full = out.full;
  }))

  -- and was heard after other work
  kept_from : (a b c : Node) (o : Placed) → IsSameHome a b → HasWorked ops a b → IsKept ops b c o → IsKept ops a c o
  kept_from a b c o same work (inl known) = inl known
  kept_from a b c o same work (inr (inl parked)) = inr (inl parked)
  kept_from a b c o same work (inr (inr out)) = inr (inr (record {
    found = out.found;
    home = out.home ∙ same;
    first = then_worked ops a b out.found same work out.first;
    rest = out.rest;
    early = out.early;
    full = out.full;
  }))

  pub heard_none : (a : Node) → HasHeardSome ops [] a a
  heard_none a = record { work = idle (site_of a) ops (parked_of a) (pass_of a); each = λ o none. absurd none }

  pub heard_on : (heard : List Placed) (a b c : Node) → IsSameHome a b → HasHeardSome ops heard a b → HasWorked ops b c → HasHeardSome ops heard a c
  heard_on heard a b c same is work = record {
    work = then_worked ops a b c same is.work work;
    each = λ o here. kept_on a b c o same work (is.each o here);
  }

  pub heard_both : (heard more : List Placed) (a b c : Node) → IsSameHome a b → HasHeardSome ops heard a b → HasHeardSome ops more b c → HasHeardSome ops (heard ++ more) a c
  heard_both heard more a b c same one other = record {
    work = then_worked ops a b c same one.work other.work;
    each = λ o here. elim (in_union o heard more here) [
      | inl before ↦ kept_on a b c o same other.work (one.each o before)
      | inr then ↦ kept_from a b c o same one.work (other.each o then)
    ];
  }

-- the same, of more operations
kept_more : (ops all : List Placed) (a b : Node) (o : Placed) → ((p : Placed) → IsIn p ops → IsIn p all) → IsKept ops a b o → IsKept all a b o
kept_more ops all a b o within (inl known) = inl known
kept_more ops all a b o within (inr (inl parked)) = inr (inl parked)
kept_more ops all a b o within (inr (inr out)) = inr (inr (record {
  found = out.found;
  home = out.home;
  first = worked_more ops all a out.found within out.first;
  rest = worked_more ops all out.found b within out.rest;
  early = out.early;
  full = out.full;
}))

pub heard_more : (ops all heard : List Placed) (a b : Node) → ((p : Placed) → IsIn p ops → IsIn p all) → HasHeardSome ops heard a b → HasHeardSome all heard a b
heard_more ops all heard a b within is = record { work = worked_more ops all a b within is.work; each = λ o here. kept_more ops all a b o within (is.each o here) }

pub in_rest : (all done rest : List Placed) → all ≡ done ++ rest → (p : Placed) → IsIn p rest → IsIn p all
in_rest all done rest split p here = subst (IsIn p) (sym split) (right done here)
  where
    right : (xs : List Placed) → IsIn p rest → IsIn p (xs ++ rest)
    right [] i = i
    right (x ∷ xs) i = inr (right xs i)

-- what was heard of the rest
pub heard_rest : (all done rest more : List Placed) (a b c : Node) → all ≡ done ++ rest → IsSameHome a b → HasHeardSome all done a b → HasHeardSome rest more b c → HasHeardSome all (done ++ more) a c
heard_rest all done rest more a b c split same one other = heard_both all done more a b c same one (heard_more rest all more b c (in_rest all done rest split) other)

pub stopped_rest : (all done rest : List Placed) (a b c : Node) (why : NodeFault) → all ≡ done ++ rest → IsSameHome a b → HasHeardSome all done a b → WasStoppedIn rest b c why → WasStoppedIn all a c why
stopped_rest all done rest a b c why split same one is = record {
  heard = done ++ is.heard;
  left = is.left;
  split = split ∙ ap (λ l. done ++ l) is.split ∙ sym (append_assoc done is.heard is.left);
  mid = is.mid;
  some = heard_rest all done rest is.heard a b is.mid split same one is.some;
  stopped = stopped_more rest all is.mid c (in_rest all done rest split) is.stopped;
  stop = subst (λ s. IsStopBefore s is.left why) (home_site a b same) is.stop;
}

-- ---- where it stops

pub own_before : (site : Site) (left : List Placed) (why : NodeFault) → IsOwnFault why → IsStopBefore site left why
own_before site [] why own = own
own_before site (o ∷ left) node.WrongHeap own = absurd own
own_before site (o ∷ left) node.WrongRule own = absurd own
own_before site (o ∷ left) node.Worn own = tt
own_before site (o ∷ left) node.NoMemory own = tt

pub off_before : (site : Site) (o : Placed) (others : List Placed) (end : TakeEnd) (why : NodeFault) → IsNotPutOff end why → (end ≡ ends.Refused unheld.WrongHeap → IsOfSite site o → ⊥) → IsStopBefore site (o ∷ others) why
off_before site o others ends.All why is wrong = absurd is
off_before site o others ends.Early why is wrong = subst (IsStopBefore site (o ∷ others)) (sym is) tt
off_before site o others (ends.Refused unheld.WrongHeap) why is wrong = subst (IsStopBefore site (o ∷ others)) (sym is) (wrong refl)
off_before site o others (ends.Refused unheld.Worn) why is wrong = subst (IsStopBefore site (o ∷ others)) (sym is) tt
off_before site o others (ends.Refused unheld.NoMemory) why is wrong = subst (IsStopBefore site (o ∷ others)) (sym is) tt

-- nothing was heard, and the call made no step
pub stopped_first : (ops : List Placed) (a b : Node) (why : NodeFault) → parked_of b ≡ parked_of a → MadeNoStep (pass_of a) (pass_of b) → IsStopBefore (site_of a) ops why → WasStoppedIn ops a b why
stopped_first ops a b why same none stop = record {
  heard = [];
  left = ops;
  split = refl;
  mid = a;
  some = heard_none ops a;
  stopped = only_stopped ops a b same none;
  stop = stop;
}

-- ---- the first operations of a list

in_take : (m : ℕ) (ops : List Placed) (o : Placed) → IsIn o (take m ops) → IsIn o ops
in_take m ops o here = subst (IsIn o) (take-append-drop m ops) (in_left o (take m ops) (drop m ops) here)

pub take_first : (m : ℕ) (ops : List Placed) (first : Placed) (others : List Placed) → ops ≡ first ∷ others → 0 < m → (more : List Placed) × (take m ops ≡ first ∷ more)
take_first zero ops first others split some = absurd (omega (arith, some))
take_first (suc m) ops first others split some = (take m others, ap (take (suc m)) split)

-- the site took some of those that it was handed
pub heard_batch : (old mid : Node) (h m : ℕ) (ops : List Placed) (answer : TakenAll) → parked_of mid ≡ parked_of old → IsPassOf (site_of old) (pass_of mid) → h < heaps_of (site_of old) →
    IsCall (IsTakenAll (pass_of mid).stamp (take m ops) answer) (pass_of old) (pass_of mid) (h ∷ []) → HasHeardSome ops (take answer.taken ops) old mid × (answer.taken ≤ length ops)
heard_batch old mid h m ops answer same is below call =
    let so = (alone (IsTakenAll (pass_of mid).stamp (take m ops) answer) (pass_of old) (pass_of mid) h call).done in
    let split : ops ≡ so.taken ++ (so.left ++ drop m ops) = sym (take-append-drop m ops) ∙ ap (λ l. l ++ drop m ops) so.split ∙ append_assoc so.taken so.left (drop m ops) in
    let front : take answer.taken ops ≡ so.taken = (λ i. take (so.number i) (split i)) ∙ take-append_seam so.taken (so.left ++ drop m ops) in
    let long : length ops ≡ length so.taken + length (so.left ++ drop m ops) = ap length split ∙ length-append so.taken (so.left ++ drop m ops) in
    let count = so.number in (
      record {
        work = batch_work old mid h (take m ops) ops answer same (in_take m ops) call;
        each = λ o here. inl (batch_known (site_of old) (pass_of old) (pass_of mid) h (take m ops) answer is below call o (subst (IsIn o) front here));
      },
      omega (arith, long, count),
    )

-- and no more than those
pub batch_within : (old mid : Node) (h m : ℕ) (ops : List Placed) (answer : TakenAll) → IsCall (IsTakenAll (pass_of mid).stamp (take m ops) answer) (pass_of old) (pass_of mid) (h ∷ []) → answer.taken ≤ length (take m ops)
batch_within old mid h m ops answer call =
    let so = (alone (IsTakenAll (pass_of mid).stamp (take m ops) answer) (pass_of old) (pass_of mid) h call).done in
    let long : length (take m ops) ≡ length so.taken + length so.left = ap length so.split ∙ length-append so.taken so.left in
    let count = so.number in
    omega (arith, long, count)

-- and then it was stopped
pub settle_stopped : (ops : List Placed) (n : ℕ) (old mid new : Node) (why : NodeFault) → HasHeardSome ops (take n ops) old mid → WasStopped [] mid new → IsOwnFault why → WasStoppedIn ops old new why
settle_stopped ops n old mid new why some stopped own = record {
  heard = take n ops;
  left = drop n ops;
  split = sym (take-append-drop n ops);
  mid = mid;
  some = some;
  stopped = stopped_more [] ops mid new (none_in ops) stopped;
  stop = own_before (site_of old) (drop n ops) why own;
}

put_early : (end : TakeEnd) (o : Placed) (a b : Node) → IsPutOff end o a b → (end ≡ ends.Early) × IsPutAway (most_of a) o (parked_of a) (parked_of b)
put_early ends.All o a b put = absurd put
put_early ends.Early o a b put = (refl, put)
put_early (ends.Refused why) o a b put = absurd put

-- the site took none of them, since the first is Early, and that was put away
pub first_parked : (old mid new : Node) (h m : ℕ) (ops : List Placed) (first : Placed) (others more : List Placed) (answer : TakenAll) → IsSameHome old mid → parked_of mid ≡ parked_of old →
    IsPassOf (site_of old) (pass_of mid) → h < heaps_of (site_of old) → IsCall (IsTakenAll (pass_of mid).stamp (take m ops) answer) (pass_of old) (pass_of mid) (h ∷ []) → ops ≡ first ∷ others → take m ops ≡ first ∷ more →
    answer.taken ≡ 0 → pass_of new ≡ pass_of mid → IsPutOff answer.end first mid new → HasHeardSome ops (take 1 ops) old new
first_parked old mid new h m ops first others more answer home same is below call split begins none pass put =
    let away = put_early answer.end first mid new put in
    let handed = batch_work old mid h (take m ops) ops answer same (in_take m ops) call in
    let here : IsIn first ops = subst (IsIn first) (sym split) (inl refl) in
    let parked : HasWorked ops mid new = worked_more (first ∷ []) ops mid new (λ p at. elim at [ inl e ↦ subst (λ q. IsIn q ops) e here | inr nothing ↦ absurd nothing ])
    (parked_work mid new first pass (λ p. put_keeps (most_of mid) first (parked_of mid) (parked_of new) p away.1) (λ p. put_found (most_of mid) first (parked_of mid) (parked_of new) p away.1)) in
    let kept : IsKept ops old new first = elim (put_heard (most_of mid) first (parked_of mid) (parked_of new) away.1) [
      | inl there ↦ inr (inl there)
      | inr many ↦ inr (inr (record {
        found = mid;
        home = home;
        first = handed;
        rest = parked;
        early = early_first (site_of old) (pass_of old) (pass_of mid) h (take m ops) answer is below call first more begins none away.0;
        full = many;
      }))
    ] in
    record {
      work = then_worked ops old mid new home handed parked;
      each = λ o at. elim (subst (IsIn o) (ap (take 1) split) at) [ inl e ↦ subst (IsKept ops old new) e kept | inr nothing ↦ absurd nothing ];
    }
