-- What calls make: a command, and several things at once, the operations of the moves, and any other call none.

use Rattle.std.proofs.Common.{Err, Ok, ap, inl, inr, refl, subst, sym, ◌∙◌}
use Rattle.std.specs.Prelude.{List, None, Some, [], false, if◌then◌else◌, map, slice_index, slice_set, true, ℕ, ◌+◌, ◌++◌, ◌==◌, ◌∷◌, ◌≡◌, ◌⊎◌}
use Rattle.zq_dots.specs.Placed.{Placed}
use Rattle.zq_model.specs.Books.{Made, Step}
use Rattle.zq_journal.specs.Books.{step_of, steps_when}
use Rattle.zq_journal.specs.declared.since.Since.TheVariants.{Ops, TooOld}
use Rattle.zq_model.specs.Heaps.{heap_of}
use Rattle.zq_model.specs.Operation.{Operation, operation_over}
use Rattle.zq_model.specs.Rule.{Rule}
use Rattle.zq_model.specs.Sets.{Early, Known, New, Taken, taken_of, vector_of}
use Rattle.zq_model.specs.Moves.{Move}
use Rattle.zq_notes.proofs.MadeWorlds.{AllMade, AllMadeIn}
use Rattle.zq_notes.specs.Notes.{Answer, Asked, Copied, Handed, HandedAll, Joined, Portioned, Replied, RepliedEach, RepliedIf, Shown, TakenOver, ToCopy, ToDrain, ToMerge, ToPortion, ToRun, ToRunEach, ToRunWatched, ToShow, ToTake, ToTakeAll, ToTakeOver, ToTell, Told}
use Rattle.zq_notes.specs.Readings.{IsAnswerOf, MayHandOn, heap_as, moved_in}
use Rattle.zq_notes.specs.Sites.{made_in, made_in_all}
use Rattle.zq_shard.specs.Shard.{HeapImage}
use Rattle.zq_spread.specs.Batches.{heap_after, judged_at, steps_of_all}

all_moved : (K s stamp h : ℕ) (moves : List Move) (v : List ℕ) → AllMade s (moved_in K s stamp h moves v)
all_moved K s stamp h [] v = tt
all_moved K s stamp h (move ∷ moves) v =
    elim (heap_of move.key move.member K == h) as (λ b. AllMade s (if b
    then step_of stamp (Made (operation_over h v s move.key move.member move.act)) ∷ moved_in K s stamp h moves (slice_set v s (slice_index v s + 1))
    else moved_in K s stamp h moves v)) [
      | true ↦ (refl, all_moved K s stamp h moves (slice_set v s (slice_index v s + 1)))
      | false ↦ all_moved K s stamp h moves v
    ]

pub all_moved_in : (K s stamp : ℕ) (moves : List Move) (vectors : ℕ → List ℕ) (heaps : List ℕ) → AllMadeIn s (map (λ h. moved_in K s stamp h moves (vectors h)) heaps)
all_moved_in K s stamp moves vectors [] = tt
all_moved_in K s stamp moves vectors (h ∷ heaps) = (all_moved K s stamp h moves (vectors h), all_moved_in K s stamp moves vectors heaps)

-- nothing is made
abbrev pub MakeNone : List (List Step) → Type 0
MakeNone steps = (W : List Operation) → made_in_all steps W ≡ W

none_of : (steps : List (List Step)) → steps ≡ [] ∷ [] → MakeNone steps
none_of steps is = subst MakeNone (sym is) (λ W. refl)

none_taken : (t : Taken) (stamp : ℕ) (o : Operation) → MakeNone (steps_when t stamp o ∷ [])
none_taken New stamp o = λ W. refl
none_taken Known stamp o = λ W. refl
none_taken Early stamp o = λ W. refl

one_taken : (t : Taken) (stamp : ℕ) (o : Operation) (rest : List Step) → ((W : List Operation) → made_in rest W ≡ W) → (W : List Operation) → made_in (steps_when t stamp o ++ rest) W ≡ W
one_taken New stamp o rest more = more
one_taken Known stamp o rest more = more
one_taken Early stamp o rest more = more

all_taken : (stamp : ℕ) (ops : List Placed) (s : HeapImage) (W : List Operation) → made_in (steps_of_all stamp ops s) W ≡ W
all_taken stamp [] s W = refl
all_taken stamp (p ∷ ops) s W = one_taken (judged_at s p) stamp p.operation (steps_of_all stamp ops (heap_after p s)) (all_taken stamp ops (heap_after p s)) W

pub none_in_turn : (stamp : ℕ) (ops : List Placed) (s : HeapImage) (steps : List (List Step)) → steps ≡ steps_of_all stamp ops s ∷ [] → MakeNone steps
none_in_turn stamp ops s steps is = subst MakeNone (sym is) (all_taken stamp ops s)

none_handed : (stamp : ℕ) (steps : List (List Step)) → MayHandOn stamp steps → MakeNone steps
none_handed stamp steps (inl is) = none_of steps is
none_handed stamp steps (inr told) = subst MakeNone (sym told.1) (λ W. refl)

none_idle : (heaps : List ℕ) → MakeNone (map (λ (h : ℕ). []) heaps)
none_idle [] = λ W. refl
none_idle (h ∷ heaps) = none_idle heaps

pub kinds : (rule : Rule) (K site : ℕ) (S : List Operation) (asked : Asked) (stamp : ℕ) (heaps : List ℕ) (answer : Answer) (steps : List (List Step)) → IsAnswerOf rule K site S asked stamp heaps answer steps →
    AllMadeIn site steps ⊎ MakeNone steps
kinds rule K site S (ToRun command w1 w2) stamp heaps (Replied reply) steps is =
    inl (subst (AllMadeIn site) (sym is.2) (all_moved_in K site stamp is.0 (vector_of S) heaps))
kinds rule K site S (ToRunEach calls) stamp heaps (RepliedEach replies) steps is =
    inl (subst (AllMadeIn site) (sym is.3) (all_moved_in K site stamp is.0 (vector_of S) heaps))
kinds rule K site S (ToRunWatched watch calls) stamp heaps (RepliedIf (Some replies)) steps is =
    inl (subst (AllMadeIn site) (sym is.1.3) (all_moved_in K site stamp is.1.0 (vector_of S) heaps))
kinds rule K site S (ToRunWatched watch calls) stamp heaps (RepliedIf None) steps is = inr (subst MakeNone (sym is.1) (none_idle heaps))
kinds rule K site S (ToTake op) stamp heaps (Handed (Ok taken)) steps is =
    inr (subst MakeNone (sym is.1) (none_taken (taken_of (vector_of S op.operation.heap) op.operation) stamp op.operation))
kinds rule K site S (ToTake op) stamp heaps (Handed (Err fault)) steps is = inr (none_of steps is.2)
kinds rule K site S (ToTakeAll heap ops) stamp heaps (HandedAll answer) steps is =
    inr (none_in_turn stamp is.3.taken (heap_as rule K S heap) steps (is.2 ∙ ap (λ (l : List Step). l ∷ []) is.3.steps_are))
kinds rule K site S (ToMerge other) stamp heaps (Joined (Ok done)) steps is =
    inr (subst MakeNone (sym is) (λ W. refl))
kinds rule K site S (ToMerge other) stamp heaps (Joined (Err fault)) steps is = inr (none_of steps is.1)
kinds rule K site S (ToTakeOver other) stamp heaps (TakenOver (Ok done)) steps is =
    inr (subst MakeNone (sym is.1) (λ W. refl))
kinds rule K site S (ToTakeOver other) stamp heaps (TakenOver (Err fault)) steps is = inr (none_of steps is.1)
kinds rule K site S (ToTell heap vector) stamp heaps (Told (Ok since)) steps is = inr (none_of steps is.1)
kinds rule K site S (ToTell heap vector) stamp heaps (Told (Err fault)) steps is = inr (none_of steps is.1)
kinds rule K site S (ToDrain heap vector most) stamp heaps (Told (Ok (Ops ops))) steps is = inr (none_handed stamp steps is.1)
kinds rule K site S (ToDrain heap vector most) stamp heaps (Told (Ok TooOld)) steps is = inr (none_of steps is)
kinds rule K site S (ToDrain heap vector most) stamp heaps (Told (Err fault)) steps is = inr (none_of steps is.1)
kinds rule K site S (ToCopy heap) stamp heaps (Copied (Ok copy)) steps is = inr (none_of steps is.1)
kinds rule K site S (ToCopy heap) stamp heaps (Copied (Err fault)) steps is = inr (none_of steps is.1)
kinds rule K site S (ToPortion heap spot limits) stamp heaps (Portioned (Ok portion)) steps is = inr (none_of steps is.1)
kinds rule K site S (ToPortion heap spot limits) stamp heaps (Portioned (Err fault)) steps is = inr (none_of steps is.1)
kinds rule K site S (ToShow heap) stamp heaps (Shown vector) steps is = inr (none_of steps is.1)
kinds rule K site S asked stamp heaps answer steps is = absurd is
