-- Calls of a node that take nothing, and heaps that it drains.

use Rattle.std.proofs.Common.{ap, arith, inl, inr, refl, subst, sym, ◌∙◌}
use Rattle.std.proofs.lemmas.Bool.{cases_eq}
use Rattle.std.proofs.lemmas.List.Sums.{sum_by-append, sum_by-cons}
use Rattle.std.specs.List.{sum, sum_by}
use Rattle.std.specs.Prelude.{Err, IsErrOf, List, Ok, Result, [], ℕ, ◌+◌, ◌∷◌, ◌≡◌, ◌⊎◌}
use Rattle.zq_journal.specs.declared.since.Since.{Since}
use Rattle.zq_journal.specs.declared.since.Since.TheVariants.{Ops, TooOld}
use Rattle.zq_model.specs.Books.{Book, Step, steps_image}
use Rattle.zq_model.specs.Image.{Image}
use Rattle.zq_node.proofs.Called.{alone, no_step_by}
use Rattle.zq_node.specs.Calls.{Drained, IsCalled, MadeNoStep}
use Rattle.zq_node.specs.Gained.{TookNothing, gained_by}
use Rattle.zq_shard.specs.Shard.{HeapImage}
use Rattle.zq_spread.specs.Answers.{IsAsked, IsCopied, IsDrained, IsPortioned, IsShown}
use Rattle.zq_spread.specs.Calls.{IsCall}
use Rattle.zq_spread.specs.Turns.{AreUnchanged, IsLeftAsGiven, IsTurnAfter, turns_at}
use Rattle.zq_spread.specs.Worn.{IsWornIn}
use Rattle.zq_spread.specs.declared.faults.ReadFault.{ReadFault}
use Rattle.zq_spread.specs.declared.faults.ReadFault.TheVariants as unread
use Rattle.zq_spread.specs.declared.locked_heap.LockedHeap.{LockedHeap}
use Rattle.zq_spread.specs.declared.pass.Pass.{Pass}
use Rattle.zq_spread.specs.declared.site.Site.{Site}
use Rattle.zq_ticketlock.specs.Seats.{entry}
use Rattle.zq_ticketlock.specs.declared.turns.Entry.{Entry}
use Rattle.zq_shard.specs.declared.spot.Spot.{Spot}
use Rattle.zq_stage.specs.declared.portion.Portion.{Portion}
use Rattle.zq_stage.specs.declared.portion.PortionLimits.{PortionLimits}

-- what site.drain says of a call
abbrev IsDrainOf : Pass → Pass → ℕ → List ℕ → ℕ → Result Since ReadFault → Type 0
IsDrainOf before after h vector most r =
    IsCall (IsDrained after.stamp vector most r) before after (h ∷ []) ⊎ (IsErrOf r unread.Worn × IsWornIn (h ∷ []) before after)

-- one that was answered
pub drain_called : (site : Site) (before after : Pass) (h : ℕ) (vector : List ℕ) (most : ℕ) (r : Result Since ReadFault) (answer : Since) → r ≡ Ok answer → IsDrainOf before after h vector most r →
    IsCalled site before after (Drained h vector most answer)
drain_called site before after h vector most r answer is (inl call) = subst (λ s. IsCall (IsDrained after.stamp vector most s) before after (h ∷ [])) is call
drain_called site before after h vector most r answer is (inr stopped) = absurd (let e : r ≡ Err unread.Worn = stopped.0 in let f : Ok answer ≡ Err unread.Worn = sym is ∙ e in cc)

no_steps_drained : (stamp : ℕ) (vector : List ℕ) (most : ℕ) (fault : ReadFault) (b : Book) (steps : List Step) → IsDrained stamp vector most (Err fault) (b ∷ []) (steps ∷ []) → steps ≡ []
no_steps_drained stamp vector most fault b steps is = is.1

-- one that was refused made no step
pub drain_stopped : (before after : Pass) (h : ℕ) (vector : List ℕ) (most : ℕ) (r : Result Since ReadFault) (fault : ReadFault) → r ≡ Err fault → IsDrainOf before after h vector most r → MadeNoStep before after
drain_stopped before after h vector most r fault is (inl call) =
    no_step_by (IsDrained after.stamp vector most (Err fault)) before after h (subst (λ s. IsCall (IsDrained after.stamp vector most s) before after (h ∷ [])) is call) (no_steps_drained after.stamp vector most fault)
drain_stopped before after h vector most r fault is (inr stopped) = stopped.1.0.steps

-- ---- what holds bring

-- a hold that leaves the image brings nothing
gained_none : (ticket : ℕ) (given home : LockedHeap) → home.book.state ≡ given.book.state → gained_by (entry ticket given home) ≡ 0
gained_none ticket given home same = let sums = ap (λ (a : Image). sum a.vector) same in omega (arith, sums)

gained_unchanged : (holds : List (Entry LockedHeap)) → AreUnchanged holds → sum_by gained_by holds ≡ 0
gained_unchanged [] are = refl
gained_unchanged (e ∷ holds) are =
    let first = ap (λ (b : Book). sum b.state.vector) are.0 in
    let rest = gained_unchanged holds are.1 in
    let parts = sum_by-cons gained_by e holds in
    omega (arith, first, rest, parts)

gained_left : (later before : List (Entry LockedHeap)) → IsLeftAsGiven later before → sum_by gained_by later ≡ sum_by gained_by before
gained_left later before left =
    let all = ap (sum_by gained_by) left.turns in
    let parts = sum_by-append gained_by left.holds before in
    let none = gained_unchanged left.holds left.unchanged in
    omega (arith, all, parts, none)

gained_turn : (given home : LockedHeap) (later before : List (Entry LockedHeap)) → home.book.state ≡ given.book.state → IsTurnAfter given home later before → sum_by gained_by later ≡ sum_by gained_by before
gained_turn given home later before same turn =
    let all = ap (sum_by gained_by) turn.turn.1 in
    let none = gained_none turn.turn.0 given home same in
    let parts = sum_by-cons gained_by (entry turn.turn.0 given home) turn.passed in
    let left = gained_left turn.passed before turn.left in
    omega (arith, all, none, parts, left)

-- ---- nothing was taken

-- by a call whose own steps leave the image
took_nothing_by : (Does : List Book → List (List Step) → Type 0) (before after : Pass) (h : ℕ) → IsCall Does before after (h ∷ []) →
    ((b : Book) (steps : List Step) (a : Image) → Does (b ∷ []) (steps ∷ []) → steps_image steps a ≡ a) → TookNothing before after
took_nothing_by Does before after h is still = λ k. elim (cases_eq k h) [
  | inl same ↦ (
      let one = alone Does before after h is in
      let state : one.left.book.state ≡ one.found.book.state = one.worked.worked.state ∙ still one.found.book one.steps one.found.book.state one.done in
      subst (λ j. sum_by gained_by (turns_at after j) ≡ sum_by gained_by (turns_at before j)) (sym same)
      (gained_turn one.found one.left (turns_at after h) (turns_at before h) state one.worked.turn))
  | inr apart ↦ ap (sum_by gained_by) ((is.others k (λ here. elim here [ inl same ↦ apart (sym same) | inr none ↦ absurd none ])).2)
]

-- by one that was refused
pub worn_took_nothing : (before after : Pass) (h : ℕ) → IsWornIn (h ∷ []) before after → TookNothing before after
worn_took_nothing before after h worn = λ k. gained_left (turns_at after k) (turns_at before k) (worn.0.left k)

pub shown_took_nothing : (vector : List ℕ) (before after : Pass) (h : ℕ) → IsCall (IsShown vector) before after (h ∷ []) → TookNothing before after
shown_took_nothing vector before after h is = took_nothing_by (IsShown vector) before after h is (λ b steps a done. ap (λ ss. steps_image ss a) done.1)

pub since_took_nothing : (r : Result Since ReadFault) (before after : Pass) (h : ℕ) → IsCall (IsAsked r) before after (h ∷ []) ⊎ (IsErrOf r unread.Worn × IsWornIn (h ∷ []) before after) → TookNothing before after
since_took_nothing r before after h (inl call) = took_nothing_by (IsAsked r) before after h call (λ b steps a done. ap (λ ss. steps_image ss a) done.1)
since_took_nothing r before after h (inr stopped) = worn_took_nothing before after h stopped.1

pub state_took_nothing : (r : Result HeapImage ReadFault) (before after : Pass) (h : ℕ) → IsCall (IsCopied r) before after (h ∷ []) ⊎ (IsErrOf r unread.Worn × IsWornIn (h ∷ []) before after) → TookNothing before after
state_took_nothing r before after h (inl call) = took_nothing_by (IsCopied r) before after h call (λ b steps a done. ap (λ ss. steps_image ss a) done.1)
state_took_nothing r before after h (inr stopped) = worn_took_nothing before after h stopped.1

pub portion_took_nothing : (spot : Spot) (limits : PortionLimits) (r : Result Portion ReadFault) (before after : Pass) (h : ℕ) →
    IsCall (IsPortioned spot limits r) before after (h ∷ []) ⊎ (IsErrOf r unread.Worn × IsWornIn (h ∷ []) before after) → TookNothing before after
portion_took_nothing spot limits r before after h (inl call) = took_nothing_by (IsPortioned spot limits r) before after h call (λ b steps a done. ap (λ ss. steps_image ss a) done.1)
portion_took_nothing spot limits r before after h (inr stopped) = worn_took_nothing before after h stopped.1

drain_still : (stamp : ℕ) (vector : List ℕ) (most : ℕ) (r : Result Since ReadFault) (b : Book) (steps : List Step) (a : Image) → IsDrained stamp vector most r (b ∷ []) (steps ∷ []) → steps_image steps a ≡ a
drain_still stamp vector most (Ok (Ops ops)) b steps a is = elim is.1 [
  | inl none ↦ ap (λ ss. steps_image ss a) none.0
  | inr told ↦ ap (λ ss. steps_image ss a) told.0
]
drain_still stamp vector most (Ok TooOld) b steps a is = ap (λ ss. steps_image ss a) is.1
drain_still stamp vector most (Err fault) b steps a is = ap (λ ss. steps_image ss a) is.1

pub drain_took_nothing : (before after : Pass) (h : ℕ) (vector : List ℕ) (most : ℕ) (r : Result Since ReadFault) → IsDrainOf before after h vector most r → TookNothing before after
drain_took_nothing before after h vector most r (inl call) = took_nothing_by (IsDrained after.stamp vector most r) before after h call (drain_still after.stamp vector most r)
drain_took_nothing before after h vector most r (inr stopped) = worn_took_nothing before after h stopped.1
