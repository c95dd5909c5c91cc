-- What the calls of a site say of the pass that made them.

use Rattle.std.proofs.Common.{ap, arith, inl, inr, refl, subst, sym, ◌∙◌}
use Rattle.std.proofs.lemmas.Bool.{cases_Bool, cases_eq, cond-false}
use Rattle.std.specs.Prelude.{Err, IfSome, IsErrOf, List, Ok, OnErr, Result, Some, [], false, length, map, max, true, ℕ, ◌+◌, ◌++◌, ◌<◌, ◌≡◌, ◌≢◌, ◌∷◌, ◌⊎◌, ◌↔◌}
use Rattle.zq_dots.specs.Placed.{Placed}
use Rattle.std.proofs.lemmas.Bool.{and_parts}
use Rattle.zq_model.proofs.Covered.{has_recorded, reached_covers_too, reached_knows}
use Rattle.zq_model.proofs.Reached.{reached_through, worked_reaches}
use Rattle.zq_model.specs.Books as made_step
use Rattle.zq_model.specs.Books.{Book, Step, are_steps_over, steps_image}
use Rattle.zq_model.specs.Reach.{IsWorked, Reached}
use Rattle.zq_journal.specs.Books.{steps_when}
use Rattle.zq_journal.specs.declared.since.Since.{Since}
use Rattle.zq_journal.specs.declared.faults.TakeFault.{TakeFault}
use Rattle.zq_journal.specs.declared.faults.TakeFault.TheVariants as unheld
use Rattle.zq_model.proofs.Taken.{taken_early, taken_known}
use Rattle.zq_model.specs.Heaps.{heap_of}
use Rattle.zq_model.specs.Image.{Image, image_after}
use Rattle.zq_model.specs.Operation.{has}
use Rattle.zq_model.specs.Sets as sets
use Rattle.zq_node.specs.Calls.{AreCalled, Asked, Call, Copied, Drained, HadNoRoom, IsCalled, IsEarlyTo, IsKnownTo, MadeNoStep, Merged, Portioned, Saw, Took, TookAll, TookOver, WasAtLast, WasTaken}
use Rattle.zq_node.specs.Faults.{untaken}
use Rattle.zq_node.specs.Hearing.{IsStopOf}
use Rattle.zq_node.specs.declared.faults.NodeFault.{NodeFault}
use Rattle.zq_node.specs.declared.faults.NodeFault.TheVariants as node
use Rattle.zq_shard.specs.Taken.{answer_of}
use Rattle.zq_shard.specs.declared.spot.Spot.{Spot}
use Rattle.zq_shard.specs.declared.taken.Taken.{Taken}
use Rattle.zq_shard.specs.declared.taken.Taken.TheVariants.{Early, Known, New}
use Rattle.zq_shard.specs.Shard.{HeapImage}
use Rattle.zq_spread.specs.Answers.{IsAsked, IsCopied, IsPortioned, IsShown, IsSince, IsTaken, IsTakenOver}
use Rattle.zq_spread.specs.Calls.{AreWorkedIn, HasSeenBook, IsCall, IsOfSite, IsWorkedIn, greatest_stamp, heaps_of}
use Rattle.zq_spread.specs.LockedHeaps.{Follows}
use Rattle.zq_spread.specs.Passes.{seen_at, steps_at}
use Rattle.zq_spread.specs.Worn.{IsWornIn}
use Rattle.zq_spread.specs.declared.faults.ReadFault.{ReadFault}
use Rattle.zq_spread.specs.declared.faults.ReadFault.TheVariants as unread
use Rattle.zq_spread.specs.declared.locked_heap.LockedHeap.{LockedHeap}
use Rattle.zq_spread.specs.declared.pass.Pass.{Pass}
use Rattle.zq_spread.specs.declared.site.Site.{Site}
use Rattle.zq_stage.specs.declared.portion.Portion.{Portion}
use Rattle.zq_stage.specs.declared.portion.PortionLimits.{PortionLimits}

-- ---- a call in one heap

-- what it found, left and did there
pub record IsAlone (Does : List Book → List (List Step) → Type 0) (before after : Pass) (h : ℕ) : Type 0 where
  pub found : LockedHeap
  pub left : LockedHeap
  pub steps : List Step
  pub worked : IsWorkedIn before after h found left steps
  pub later : found.book.stamp < after.stamp
  pub done : Does (found.book ∷ []) (steps ∷ [])

alone_in : (Does : List Book → List (List Step) → Type 0) (before after : Pass) (h : ℕ) (found left : List LockedHeap) (steps : List (List Step)) → AreWorkedIn before after (h ∷ []) found left steps →
    after.stamp ≡ max before.stamp (greatest_stamp found) + 1 → Does (map (λ x. x.book) found) steps → IsAlone Does before after h
alone_in Does before after h [] left steps worked next done = absurd worked
alone_in Does before after h (x ∷ found) [] steps worked next done = absurd worked
alone_in Does before after h (x ∷ found) (y ∷ left) [] worked next done = absurd worked
alone_in Does before after h (x ∷ []) (y ∷ []) (ss ∷ []) worked next done =
    record { found = x; left = y; steps = ss; worked = worked.0; later = omega (arith, next); done = done }
alone_in Does before after h (x ∷ []) (y ∷ []) (ss ∷ more ∷ steps) worked next done = absurd worked.1
alone_in Does before after h (x ∷ []) (y ∷ z ∷ left) (ss ∷ steps) worked next done = absurd worked.1
alone_in Does before after h (x ∷ z ∷ found) (y ∷ left) (ss ∷ steps) worked next done = absurd worked.1

pub alone : (Does : List Book → List (List Step) → Type 0) (before after : Pass) (h : ℕ) → IsCall Does before after (h ∷ []) → IsAlone Does before after h
alone Does before after h is = alone_in Does before after h is.found is.left is.steps is.worked is.next is.done

-- nothing changed in another heap
pub elsewhere : (Does : List Book → List (List Step) → Type 0) (before after : Pass) (h k : ℕ) → IsCall Does before after (h ∷ []) → k ≢ h → (seen_at after k ≡ seen_at before k) × (steps_at after k ≡ steps_at before k)
elsewhere Does before after h k is apart = let stays = is.others k (λ here. elim here [ inl same ↦ apart (sym same) | inr none ↦ absurd none ]) in (stays.0, stays.1)

-- a call whose own steps are none made no step
pub no_step_by : (Does : List Book → List (List Step) → Type 0) (before after : Pass) (h : ℕ) → IsCall Does before after (h ∷ []) →
    ((b : Book) (steps : List Step) → Does (b ∷ []) (steps ∷ []) → steps ≡ []) → MadeNoStep before after
no_step_by Does before after h is none = λ k. elim (cases_eq k h) [
  | inl same ↦ (
      let one = alone Does before after h is in
      let empty : length one.steps ≡ 0 = ap length (none one.found.book one.steps one.done) in
      let own = one.worked.own in
      let here : steps_at after h ≡ steps_at before h = omega (arith, own, empty) in
      subst (λ j. steps_at after j ≡ steps_at before j) (sym same) here)
  | inr apart ↦ (elsewhere Does before after h k is apart).1
]

-- ---- what was reached stays so

reached_alone : (Does : List Book → List (List Step) → Type 0) (before after : Pass) (h : ℕ) (one : IsAlone Does before after h) (x : LockedHeap) → seen_at before h ≡ Some x → Reached one.left.book x.book
reached_alone Does before after h one x is =
    let follow : Follows one.found x = subst (λ s. IfSome s (Follows one.found)) is one.worked.follows in
    let first = follow.0 in
    let last = worked_reaches one.left.book one.found.book after.stamp one.steps one.worked.worked one.later in
    (first.0 ++ one.steps, reached_through one.left.book one.found.book x.book first.0 one.steps last first.1)

-- what later books keep
abbrev pub Stays : (Book → Type 0) → Type 0
Stays P = (later earlier : Book) → Reached later earlier → P earlier → P later

seen_by : (Does : List Book → List (List Step) → Type 0) (P : Book → Type 0) → Stays P → (before after : Pass) (h k : ℕ) → IsCall Does before after (h ∷ []) → HasSeenBook before k P → HasSeenBook after k P
seen_by Does P stays before after h k is had = elim (cases_eq k h) [
  | inl same ↦ (
      let one = alone Does before after h is in
      let seen : seen_at before h ≡ Some had.0 = ap (seen_at before) (sym same) ∙ had.1 in
      (one.left, ap (seen_at after) same ∙ one.worked.seen, stays one.left.book had.0.book (reached_alone Does before after h one had.0 seen) had.2))
  | inr apart ↦ (had.0, (elsewhere Does before after h k is apart).0 ∙ had.1, had.2)
]

seen_on : (P : Book → Type 0) → Stays P → (site : Site) (before after : Pass) (k : ℕ) (c : Call) → IsCalled site before after c → HasSeenBook before k P → HasSeenBook after k P
seen_on P stays site before after k (Took op answer) is had = seen_by _ P stays before after op.operation.heap k is.1 had
seen_on P stays site before after k (TookAll heap ops answer) is had = seen_by _ P stays before after heap k is had
seen_on P stays site before after k (Merged shard) is had = seen_by _ P stays before after shard.heap k is.1 had
seen_on P stays site before after k (TookOver shard) is had = seen_by _ P stays before after shard.heap k is.1 had
seen_on P stays site before after k (Saw heap vector) is had = seen_by _ P stays before after heap k is had
seen_on P stays site before after k (Asked heap vector answer) is had = seen_by _ P stays before after heap k is.0 had
seen_on P stays site before after k (Copied heap shard) is had = seen_by _ P stays before after heap k is had
seen_on P stays site before after k (Portioned heap spot limits portion) is had = seen_by _ P stays before after heap k is had
seen_on P stays site before after k (Drained heap vector most answer) is had = seen_by _ P stays before after heap k is had

pub seen_after : (P : Book → Type 0) → Stays P → (site : Site) (before after : Pass) (k : ℕ) (calls : List Call) → AreCalled site before after calls → HasSeenBook before k P → HasSeenBook after k P
seen_after P stays site before after k [] are had = subst (λ p. HasSeenBook p k P) (sym are) had
seen_after P stays site before after k (c ∷ calls) are had = seen_after P stays site are.0 after k calls are.2 (seen_on P stays site before are.0 k c are.1 had)

-- ---- what was taken

-- the operation is in the book's vector
abbrev pub HasOperation : Placed → Book → Type 0
HasOperation o b = has b.state.vector o.operation.site o.operation.n ≡ true

pub in_stays : (o : Placed) → Stays (HasOperation o)
in_stays o later earlier reached known = reached_knows later earlier o.operation.site o.operation.n reached known

-- one that is Known, or New, is taken
taken_so : (answer : Taken) (stamp : ℕ) (o : Placed) (found left : Book) (steps : List Step) → answer ≢ Early → IsWorked left found stamp steps →
    answer_of answer ≡ sets.taken_of found.state.vector o.operation → steps ≡ steps_when (sets.taken_of found.state.vector o.operation) stamp o.operation → HasOperation o left
taken_so New stamp o found left steps late worked is made =
    let new : steps ≡ steps_when sets.New stamp o.operation = made ∙ ap (λ t. steps_when t stamp o.operation) (sym is) in
    let over : are_steps_over found.heaps found.heap found.state (steps_when sets.New stamp o.operation) ≡ true = subst (λ ss. are_steps_over found.heaps found.heap found.state ss ≡ true) new worked.legal in
    let state : left.state ≡ image_after o.operation found.state = worked.state ∙ ap (λ ss. steps_image ss found.state) new in
    subst (λ (a : Image). has a.vector o.operation.site o.operation.n ≡ true) (sym state) (has_recorded found.heaps found.heap found.state (made_step.Took o.operation) (and_parts _ _ over).0)
taken_so Known stamp o found left steps late worked is made =
    let none : steps ≡ [] = made ∙ ap (λ t. steps_when t stamp o.operation) (sym is) in
    let state : left.state ≡ found.state = worked.state ∙ ap (λ ss. steps_image ss found.state) none in
    subst (λ (a : Image). has a.vector o.operation.site o.operation.n ≡ true) (sym state) (taken_known found.state.vector o.operation (sym is))
taken_so Early stamp o found left steps late worked is made = absurd (late refl)

pub known_call : (site : Site) (before after : Pass) (o : Placed) (answer : Taken) → answer ≢ Early → IsCalled site before after (Took o answer) → IsKnownTo after o
known_call site before after o answer late is =
    let one = alone (IsTaken after.stamp o (Ok answer)) before after o.operation.heap is.1 in
    (one.left, one.worked.seen, taken_so answer after.stamp o one.found.book one.left.book one.steps late one.worked.worked one.done.0 one.done.1)

-- what was taken by one of the calls is known by what the pass has then seen
pub known_by : (site : Site) (before after : Pass) (o : Placed) (calls : List Call) → AreCalled site before after calls → WasTaken calls o → IsKnownTo after o
known_by site before after o [] are taken = absurd taken.2
known_by site before after o (c ∷ calls) are taken = elim taken.2 [
  | inl same ↦ seen_after (HasOperation o) (in_stays o) site are.0 after o.operation.heap calls are.2 (known_call site before are.0 o taken.0 taken.1 (subst (IsCalled site before are.0) same are.1))
  | inr more ↦ known_by site are.0 after o calls are.2 (taken.0, taken.1, more)
]

-- ---- calls one after the other

pub called_on : (site : Site) (before between after : Pass) (first rest : List Call) → AreCalled site before between first → AreCalled site between after rest → AreCalled site before after (first ++ rest)
called_on site before between after [] rest one other = subst (λ p. AreCalled site p after rest) one other
called_on site before between after (c ∷ first) rest one other = (one.0, one.1, called_on site one.0 between after first rest one.2 other)

-- ---- calls that were refused, and looks

-- what holds after an error is said of the error alone
pub on_err : {A E : Type 0} (P : Type 0) (r : Result A E) → P → OnErr r P
on_err P (Ok x) is = tt
on_err P (Err e) is = is

-- an operation of which it is refused that it is not the site's is the site's
pub of_site : (site : Site) (o : Placed) → ((IsOfSite site o → ⊥) → ⊥) → IsOfSite site o
of_site site o so = record {
  heaps = elim (cases_eq o.heaps (heaps_of site)) [ inl same ↦ same | inr other ↦ absurd (so (λ is. other is.heaps)) ];
  placed = elim (cases_eq (heap_of o.operation.key o.operation.member o.heaps) o.operation.heap) [ inl same ↦ same | inr other ↦ absurd (so (λ is. other is.placed)) ];
}

-- what the site's call says
pub record IsTakeOf (site : Site) (before after : Pass) (o : Placed) (r : Result Taken TakeFault) : Type 0 where
  pub wrong_heap : IsErrOf r unheld.WrongHeap ↔ (IsOfSite site o → ⊥)
  pub unlocked : (IsOfSite site o → ⊥) → after ≡ before
  pub called : IsOfSite site o → IsCall (IsTaken after.stamp o r) before after (o.operation.heap ∷ []) ⊎ (IsErrOf r unheld.Worn × IsWornIn (o.operation.heap ∷ []) before after)

no_steps_taken : (stamp : ℕ) (o : Placed) (fault : TakeFault) (b : Book) (steps : List Step) → IsTaken stamp o (Err fault) (b ∷ []) (steps ∷ []) → steps ≡ []
no_steps_taken stamp o unheld.WrongHeap b steps is = absurd is
no_steps_taken stamp o unheld.Worn b steps is = is.2
no_steps_taken stamp o unheld.NoMemory b steps is = is.1

own_refusal : (site : Site) (before after : Pass) (o : Placed) (fault : TakeFault) → IsTakeOf site before after o (Err fault) → IsOfSite site o → MadeNoStep before after
own_refusal site before after o fault is of = elim (is.called of) [
  | inl call ↦ no_step_by (IsTaken after.stamp o (Err fault)) before after o.operation.heap call (no_steps_taken after.stamp o fault)
  | inr stopped ↦ stopped.1.0.steps
]

same_pass : (before after : Pass) → after ≡ before → MadeNoStep before after
same_pass before after same = λ k. ap (λ p. steps_at p k) same

refused_take : (site : Site) (before after : Pass) (o : Placed) (fault : TakeFault) → IsTakeOf site before after o (Err fault) → MadeNoStep before after
refused_take site before after o unheld.WrongHeap is = same_pass before after (is.unlocked (is.wrong_heap.0 refl))
refused_take site before after o unheld.Worn is = own_refusal site before after o unheld.Worn is (of_site site o (λ not. let e = is.wrong_heap.1 not in absurd (cc)))
refused_take site before after o unheld.NoMemory is = own_refusal site before after o unheld.NoMemory is (of_site site o (λ not. let e = is.wrong_heap.1 not in absurd (cc)))

-- a take that was refused made no step
pub take_stopped : (site : Site) (before after : Pass) (o : Placed) (r : Result Taken TakeFault) (fault : TakeFault) → r ≡ Err fault → IsTakeOf site before after o r → MadeNoStep before after
take_stopped site before after o r fault is said = refused_take site before after o fault (subst (IsTakeOf site before after o) is said)

taken_call : (site : Site) (before after : Pass) (o : Placed) (answer : Taken) → IsTakeOf site before after o (Ok answer) → IsCalled site before after (Took o answer)
taken_call site before after o answer is =
    let of = of_site site o (λ not. let e = is.wrong_heap.1 not in absurd (cc)) in
    (of, elim (is.called of) [ inl call ↦ call | inr stopped ↦ (let e = stopped.0 in absurd (cc)) ])

-- one that was answered is a call
pub take_called : (site : Site) (before after : Pass) (o : Placed) (r : Result Taken TakeFault) (answer : Taken) → r ≡ Ok answer → IsTakeOf site before after o r → IsCalled site before after (Took o answer)
take_called site before after o r answer is said = taken_call site before after o answer (subst (IsTakeOf site before after o) is said)

-- what is Early by the vector that was shown is Early by what the pass has then seen
pub early_shown : (before after : Pass) (heap : ℕ) (vector : List ℕ) (o : Placed) → IsCall (IsShown vector) before after (heap ∷ []) → o.operation.heap ≡ heap →
    sets.taken_of vector o.operation ≡ sets.Early → IsEarlyTo after o
early_shown before after heap vector o is here early =
    let one = alone (IsShown vector) before after heap is in
    let state : one.left.book.state ≡ one.found.book.state = one.worked.worked.state ∙ ap (λ ss. steps_image ss one.found.book.state) one.done.1 in
    let same : one.left.book.state.vector ≡ vector = ap (λ a. a.vector) state ∙ sym one.done.0 in
    (one.left, ap (seen_at after) here ∙ one.worked.seen, ap (λ v. sets.taken_of v o.operation) same ∙ early)

-- what is Early by a later book was Early by the earlier one
early_before : (later earlier : Book) (o : Placed) → Reached later earlier → sets.taken_of later.state.vector o.operation ≡ sets.Early → sets.taken_of earlier.state.vector o.operation ≡ sets.Early
early_before later earlier o reached early =
    let parts = taken_early later.state.vector o.operation early in
    let v = earlier.state.vector in
    let fresh : has v o.operation.site o.operation.n ≡ false = elim (cases_Bool (has v o.operation.site o.operation.n)) [
      | inl known ↦ absurd (let later_knows = reached_knows later earlier o.operation.site o.operation.n reached known in let e : true ≡ false = sym later_knows ∙ parts.0 in cc)
      | inr not ↦ not
    ] in
    let apart : sets.covers v o.operation.seen ≡ false = elim (cases_Bool (sets.covers v o.operation.seen)) [
      | inl all ↦ absurd (let later_covers = reached_covers_too later earlier o.operation.seen reached all in let e : true ≡ false = sym later_covers ∙ parts.1 in cc)
      | inr not ↦ not
    ] in
    cond-false _ _ _ fresh ∙ cond-false _ _ _ apart

-- an operation that is not Early by the vector that was shown is not answered as Early after it
pub never_early : (site : Site) (a b c : Pass) (heap : ℕ) (vector : List ℕ) (o : Placed) (answer : Taken) → IsCall (IsShown vector) a b (heap ∷ []) → o.operation.heap ≡ heap → sets.taken_of vector o.operation ≢ sets.Early →
    IsCalled site b c (Took o answer) → answer ≢ Early
never_early site a b c heap vector o answer shown here ready called early =
    let one = alone (IsShown vector) a b heap shown in
    let two = alone (IsTaken c.stamp o (Ok answer)) b c o.operation.heap called.1 in
    let seen : seen_at b o.operation.heap ≡ Some one.left = ap (seen_at b) here ∙ one.worked.seen in
    let follow : Follows two.found one.left = subst (λ s. IfSome s (Follows two.found)) seen two.worked.follows in
    let last : sets.taken_of two.found.book.state.vector o.operation ≡ sets.Early = sym two.done.0 ∙ ap answer_of early in
    let first : sets.taken_of one.left.book.state.vector o.operation ≡ sets.Early = early_before two.found.book one.left.book o follow.0 last in
    let state : one.left.book.state ≡ one.found.book.state = one.worked.worked.state ∙ ap (λ ss. steps_image ss one.found.book.state) one.done.1 in
    let same : one.left.book.state.vector ≡ vector = ap (λ a. a.vector) state ∙ sym one.done.0 in
    ready (ap (λ v. sets.taken_of v o.operation) (sym same) ∙ first)

-- why the node stops at it
pub stop_take : (site : Site) (before after : Pass) (o : Placed) (r : Result Taken TakeFault) (fault : TakeFault) (n : NodeFault) → r ≡ Err fault → n ≡ untaken fault →
    IsTakeOf site before after o r → IsStopOf site (Some o) n
stop_take site before after o r fault n is told said = subst (IsStopOf site (Some o)) (sym told) (stop_by fault (subst (IsTakeOf site before after o) is said))
  where
    stop_by : (fault : TakeFault) → IsTakeOf site before after o (Err fault) → IsStopOf site (Some o) (untaken fault)
    stop_by unheld.WrongHeap said = said.wrong_heap.0 refl
    stop_by unheld.Worn said = of_site site o (λ not. let e = said.wrong_heap.1 not in absurd (cc))
    stop_by unheld.NoMemory said = of_site site o (λ not. let e = said.wrong_heap.1 not in absurd (cc))

-- where the node lacks memory for it, so does the site
pub short_take : (site : Site) (before after : Pass) (o : Placed) (r : Result Taken TakeFault) (fault : TakeFault) (n : NodeFault) → r ≡ Err fault → n ≡ untaken fault →
    IsTakeOf site before after o r → n ≡ node.NoMemory → HadNoRoom site before after o
short_take site before after o r fault n is told said none = short_by fault (subst (IsTakeOf site before after o) is said) (sym told ∙ none)
  where
    short_by : (fault : TakeFault) → IsTakeOf site before after o (Err fault) → untaken fault ≡ node.NoMemory → HadNoRoom site before after o
    short_by unheld.WrongHeap said none = absurd (cc)
    short_by unheld.Worn said none = absurd (cc)
    short_by unheld.NoMemory said none =
        let is = of_site site o (λ not. let e = said.wrong_heap.1 not in absurd (cc)) in
        elim (said.called is) [
          | inl call ↦ (is, call)
          | inr worn ↦ absurd (let e = worn.0 in cc)
        ]

-- where the node is worn at it, the site is
pub worn_take : (site : Site) (before after : Pass) (o : Placed) (r : Result Taken TakeFault) (fault : TakeFault) (n : NodeFault) → r ≡ Err fault → n ≡ untaken fault →
    IsTakeOf site before after o r → n ≡ node.Worn → WasAtLast site before after o
worn_take site before after o r fault n is told said worn = worn_by fault (subst (IsTakeOf site before after o) is said) (sym told ∙ worn)
  where
    worn_by : (fault : TakeFault) → IsTakeOf site before after o (Err fault) → untaken fault ≡ node.Worn → WasAtLast site before after o
    worn_by unheld.WrongHeap said worn = absurd (cc)
    worn_by unheld.NoMemory said worn = absurd (cc)
    worn_by unheld.Worn said worn =
        let is = of_site site o (λ not. let e = said.wrong_heap.1 not in absurd (cc)) in
        elim (said.called is) [
          | inl call ↦ (is, inl call)
          | inr refused ↦ (is, inr refused.1)
        ]

-- one that is not the site's leaves the pass as it was
pub unheard_take : (site : Site) (before after : Pass) (o : Placed) (r : Result Taken TakeFault) (fault : TakeFault) (n : NodeFault) → r ≡ Err fault → n ≡ untaken fault →
    IsTakeOf site before after o r → n ≡ node.WrongHeap → after ≡ before
unheard_take site before after o r unheld.WrongHeap n is told said wrong = said.unlocked (said.wrong_heap.0 is)
unheard_take site before after o r unheld.Worn n is told said wrong = let e : node.Worn ≡ node.WrongHeap = sym told ∙ wrong in absurd (cc)
unheard_take site before after o r unheld.NoMemory n is told said wrong = let e : node.NoMemory ≡ node.WrongHeap = sym told ∙ wrong in absurd (cc)

-- ---- readings

pub shown_no_step : (vector : List ℕ) (before after : Pass) (h : ℕ) → IsCall (IsShown vector) before after (h ∷ []) → MadeNoStep before after
shown_no_step vector before after h is = no_step_by (IsShown vector) before after h is (λ b steps done. done.1)

-- the site was asked, or refused to be
pub since_no_step : (r : Result Since ReadFault) (before after : Pass) (h : ℕ) → IsCall (IsAsked r) before after (h ∷ []) ⊎ (IsErrOf r unread.Worn × IsWornIn (h ∷ []) before after) → MadeNoStep before after
since_no_step r before after h (inl call) = no_step_by (IsAsked r) before after h call (λ b steps done. done.1)
since_no_step r before after h (inr stopped) = stopped.1.0.steps

-- the heap was copied, or refused to be
pub state_no_step : (r : Result HeapImage ReadFault) (before after : Pass) (h : ℕ) → IsCall (IsCopied r) before after (h ∷ []) ⊎ (IsErrOf r unread.Worn × IsWornIn (h ∷ []) before after) → MadeNoStep before after
state_no_step r before after h (inl call) = no_step_by (IsCopied r) before after h call (λ b steps done. done.1)
state_no_step r before after h (inr stopped) = stopped.1.0.steps

-- a portion was copied, or refused to be
pub portion_no_step : (spot : Spot) (limits : PortionLimits) (r : Result Portion ReadFault) (before after : Pass) (h : ℕ) →
    IsCall (IsPortioned spot limits r) before after (h ∷ []) ⊎ (IsErrOf r unread.Worn × IsWornIn (h ∷ []) before after) → MadeNoStep before after
portion_no_step spot limits r before after h (inl call) = no_step_by (IsPortioned spot limits r) before after h call (λ b steps done. done.1)
portion_no_step spot limits r before after h (inr stopped) = stopped.1.0.steps

pub portion_called : (site : Site) (before after : Pass) (h : ℕ) (spot : Spot) (limits : PortionLimits) (r : Result Portion ReadFault) (portion : Portion) → r ≡ Ok portion →
    IsCall (IsPortioned spot limits r) before after (h ∷ []) ⊎ (IsErrOf r unread.Worn × IsWornIn (h ∷ []) before after) → IsCalled site before after (Portioned h spot limits portion)
portion_called site before after h spot limits r portion is (inl call) = subst (λ s. IsCall (IsPortioned spot limits s) before after (h ∷ [])) is call
portion_called site before after h spot limits r portion is (inr stopped) = absurd (let e : r ≡ Err unread.Worn = stopped.0 in let f : Ok portion ≡ Err unread.Worn = sym is ∙ e in cc)

pub no_step_on : (a b c : Pass) → MadeNoStep a b → MadeNoStep b c → MadeNoStep a c
no_step_on a b c first then = λ h. then h ∙ first h

pub since_called : (site : Site) (before after : Pass) (h : ℕ) (theirs : List ℕ) (r : Result Since ReadFault) (answer : Since) → r ≡ Ok answer →
    IsCall (IsAsked r) before after (h ∷ []) ⊎ (IsErrOf r unread.Worn × IsWornIn (h ∷ []) before after) → HasSeenBook after h (IsSince theirs answer) → IsCalled site before after (Asked h theirs answer)
since_called site before after h theirs r answer is (inl call) seen = (subst (λ s. IsCall (IsAsked s) before after (h ∷ [])) is call, seen)
since_called site before after h theirs r answer is (inr stopped) seen = absurd (let e : r ≡ Err unread.Worn = stopped.0 in let f : Ok answer ≡ Err unread.Worn = sym is ∙ e in cc)

pub state_called : (site : Site) (before after : Pass) (h : ℕ) (r : Result HeapImage ReadFault) (shard : HeapImage) → r ≡ Ok shard →
    IsCall (IsCopied r) before after (h ∷ []) ⊎ (IsErrOf r unread.Worn × IsWornIn (h ∷ []) before after) → IsCalled site before after (Copied h shard)
state_called site before after h r shard is (inl call) = subst (λ s. IsCall (IsCopied s) before after (h ∷ [])) is call
state_called site before after h r shard is (inr stopped) = absurd (let e : r ≡ Err unread.Worn = stopped.0 in let f : Ok shard ≡ Err unread.Worn = sym is ∙ e in cc)
