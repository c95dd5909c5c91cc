-- Operations that a heap takes one after the other.

use Rattle.std.proofs.Common.{ap, arith, drop, get_or, refl, set, subst, sym, take, ◌∙◌, ◌<◌}
use Rattle.std.proofs.lemmas.List.{append-nil, append_assoc, drop-drop, drop-set-lt, get_or-drop, length-append, set-get_or, take-append-drop, take_more}
use Rattle.std.specs.Prelude.{List, [], length, ℕ, ◌+◌, ◌++◌, ◌∷◌, ◌≡◌, ◌≢◌, ◌≤◌}
use Rattle.zq_dots.specs.Placed.{Placed}
use Rattle.zq_journal.specs.Books.{book_when, state_of, steps_taken, steps_when}
use Rattle.zq_model.specs.Books.{Book}
use Rattle.zq_model.specs.Image.{image_when}
use Rattle.zq_model.specs.Operation.{Operation}
use Rattle.zq_model.specs.Reach.{IsWorked}
use Rattle.zq_model.specs.Sets as sets
use Rattle.zq_shard.specs.Shard.{HeapImage, IsOfHeap}
use Rattle.zq_spread.specs.Answers.{HasWorked}
use Rattle.zq_spread.specs.Batches.{AreTaken, EndsAt, IsTakenAll, IsTakenNext, IsTakenSoFar, heap_after, heap_after_all, judged_at, steps_of_all}
use Rattle.zq_spread.specs.declared.taken_all.TakenAll.{TakenAll}

-- a list, cut at a place
pub parts : (ops : List Placed) (i : ℕ) (x : Placed) → i < length ops → x ≡ get_or ops i x → ops ≡ take i ops ++ x ∷ drop (i + 1) ops
parts ops i x below is =
    let more : take (i + 1) ops ≡ take i ops ++ x ∷ [] = take_more ops i x below ∙ ap (λ y. take i ops ++ y ∷ []) (sym is) in
    sym (take-append-drop (i + 1) ops) ∙ ap (λ l. l ++ drop (i + 1) ops) more ∙ append_assoc (take i ops) (x ∷ []) (drop (i + 1) ops)

-- ---- one operation more

state_when : (t : sets.Taken) (b : Book) (stamp : ℕ) (o : Operation) →
    state_of (book_when t b stamp o) ≡ record { heap = b.heap; heaps = b.heaps; rule = b.rule; image = image_when t o b.state }
state_when sets.New b stamp o = refl
state_when sets.Known b stamp o = refl
state_when sets.Early b stamp o = refl

low_when : (t : sets.Taken) (b : Book) (stamp : ℕ) (o : Operation) → b.stamp ≤ stamp → (book_when t b stamp o).stamp ≤ stamp
low_when sets.New b stamp o low = omega arith
low_when sets.Known b stamp o low = low
low_when sets.Early b stamp o low = low

count_when : (t : sets.Taken) (b : Book) (stamp : ℕ) (o : Operation) → (book_when t b stamp o).count ≡ b.count + length (steps_when t stamp o)
count_when sets.New b stamp o = refl
count_when sets.Known b stamp o = omega arith
count_when sets.Early b stamp o = omega arith

are_more : (ops : List Placed) (p : Placed) (s : HeapImage) → AreTaken ops s → IsOfHeap (heap_after_all ops s) p → judged_at (heap_after_all ops s) p ≢ sets.Early → AreTaken (ops ++ p ∷ []) s
are_more [] p s are of late = (of, late, tt)
are_more (x ∷ ops) p s are of late = (are.0, are.1, are_more ops p (heap_after x s) are.2 of late)

heap_more : (ops : List Placed) (p : Placed) (s : HeapImage) → heap_after_all (ops ++ p ∷ []) s ≡ heap_after p (heap_after_all ops s)
heap_more [] p s = refl
heap_more (x ∷ ops) p s = heap_more ops p (heap_after x s)

pub steps_more : (stamp : ℕ) (ops : List Placed) (p : Placed) (s : HeapImage) → steps_of_all stamp (ops ++ p ∷ []) s ≡ steps_of_all stamp ops s ++ steps_when (judged_at (heap_after_all ops s) p) stamp p.operation
steps_more stamp [] p s = append-nil (steps_when (judged_at s p) stamp p.operation)
steps_more stamp (x ∷ ops) p s =
    ap (λ l. steps_when (judged_at s x) stamp x.operation ++ l) (steps_more stamp ops p (heap_after x s))
    ∙ sym (append_assoc (steps_when (judged_at s x) stamp x.operation) (steps_of_all stamp ops (heap_after x s)) (steps_when (judged_at (heap_after_all ops (heap_after x s)) p) stamp p.operation))

-- ---- a list of them, so far

-- the book took these, which made it the one that is now
pub record IsUnderWay (stamp : ℕ) (done : List Placed) (old now : Book) : Type 0 where
  pub are : AreTaken done (state_of old)
  pub state : state_of now ≡ heap_after_all done (state_of old)
  pub low : now.stamp ≤ stamp
  pub count : now.count ≡ old.count + length (steps_of_all stamp done (state_of old))
  pub worked : (a : Book) → IsWorked old a stamp [] → IsWorked now a stamp (steps_of_all stamp done (state_of old))

pub under_way : (stamp : ℕ) (old : Book) → old.stamp ≤ stamp → IsUnderWay stamp [] old old
under_way stamp old low = record { are = tt; state = refl; low = low; count = omega arith; worked = λ a begun. begun }

pub goes_on : (stamp : ℕ) (done : List Placed) (p : Placed) (old now new : Book) → IsUnderWay stamp done old now → IsTakenNext stamp p now new → IsUnderWay stamp (done ++ p ∷ []) old new
goes_on stamp done p old now new is next =
    let s : HeapImage = state_of old in
    let judged : judged_at (state_of now) p ≡ judged_at (heap_after_all done s) p = ap (λ (h : HeapImage). judged_at h p) is.state in
    let more : steps_of_all stamp (done ++ p ∷ []) s ≡ steps_of_all stamp done s ++ steps_taken now stamp p.operation =
    steps_more stamp done p s ∙ ap (λ t. steps_of_all stamp done s ++ steps_when t stamp p.operation) (sym judged) in
    record {
      are = are_more done p s is.are (subst (λ (h : HeapImage). IsOfHeap h p) is.state next.of) (λ early. next.late (judged ∙ early));
      state = ap state_of next.book ∙ state_when (judged_at (state_of now) p) now stamp p.operation ∙ ap (heap_after p) is.state ∙ sym (heap_more done p s);
      low = subst (λ (b : Book). b.stamp ≤ stamp) (sym next.book) (low_when (judged_at (state_of now) p) now stamp p.operation is.low);
      count =
          let one : new.count ≡ now.count + length (steps_taken now stamp p.operation) = ap (λ (b : Book). b.count) next.book ∙ count_when (judged_at (state_of now) p) now stamp p.operation in
          let all : length (steps_of_all stamp (done ++ p ∷ []) s) ≡ length (steps_of_all stamp done s) + length (steps_taken now stamp p.operation) =
          ap length more ∙ length-append (steps_of_all stamp done s) (steps_taken now stamp p.operation) in
          let so_far = is.count in
          omega (arith, one, all, so_far);
      worked = λ a begun. subst (IsWorked new a stamp) (sym more) (next.worked a (steps_of_all stamp done s) (is.worked a begun));
    }

-- ---- where it ends

begun_state : (b a : Book) (stamp : ℕ) → IsWorked b a stamp [] → state_of b ≡ state_of a
begun_state b a stamp is = λ i. record { heap = is.heap i; heaps = is.heaps i; rule = is.rule i; image = is.state i }

-- what a call answers of operations of which a book took these, and not the next
pub taken_so_far : (stamp : ℕ) (ops done left : List Placed) (old now a : Book) (answer : TakenAll) → IsUnderWay stamp done old now → ops ≡ done ++ left → answer.taken ≡ length done →
    answer.fresh + old.count ≡ now.count → EndsAt answer.end left (state_of now) now.count → IsWorked old a stamp [] → HasWorked (IsTakenAll stamp ops answer) now a stamp
taken_so_far stamp ops done left old now a answer is split number fresh end begun =
    let s : HeapImage = state_of old in
    let steps = steps_of_all stamp done s in
    let counted = is.count in
    let same : old.count ≡ a.count = (let e = begun.count in omega (arith, e)) in
    let later : now.count ≡ a.count + length steps = omega (arith, counted, same) in
    let here : EndsAt answer.end left (heap_after_all done s) (a.count + length steps) =
    subst (EndsAt answer.end left (heap_after_all done s)) later (subst (λ (h : HeapImage). EndsAt answer.end left h now.count) is.state end) in
    let so : IsTakenSoFar stamp ops answer s a.count steps = record {
      taken = done;
      left = left;
      split = split;
      number = number;
      fresh = omega (arith, fresh, counted);
      are = is.are;
      steps_are = refl;
      end = here;
    } in
    (steps, is.worked a begun, subst (λ (h : HeapImage). IsTakenSoFar stamp ops answer h a.count steps) (begun_state old a stamp begun) so)

-- ---- what is left of a list that is written in turn

-- the next one is as it was
pub next_left : (first now : List Placed) (i : ℕ) (d : Placed) → drop i now ≡ drop i first → get_or now i d ≡ get_or first i d
next_left first now i d left =
    let at : i + 0 ≡ i = omega arith in
    ap (λ n. get_or now n d) (sym at) ∙ sym (get_or-drop i now 0 d) ∙ ap (λ l. get_or l 0 d) left ∙ get_or-drop i first 0 d ∙ ap (λ n. get_or first n d) at

-- and those after one that is written are
pub rest_left : (first now : List Placed) (i : ℕ) (x : Placed) → drop i now ≡ drop i first → drop (i + 1) (set now i x) ≡ drop (i + 1) first
rest_left first now i x left = drop-set-lt (i + 1) now i x (omega arith) ∙ sym (drop-drop 1 i now) ∙ ap (drop 1) left ∙ drop-drop 1 i first

-- and all where that is written as it was
pub all_left : (first now : List Placed) (i : ℕ) (x : Placed) → drop i now ≡ drop i first → x ≡ get_or now i x → drop i (set now i x) ≡ drop i first
all_left first now i x left is = ap (λ y. drop i (set now i y)) is ∙ ap (drop i) (set-get_or now i x) ∙ left
