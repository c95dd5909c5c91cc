-- What calls answer and do, read off the set of operations that the site had before them.

use Rattle.std.specs.Prelude.{Bool, Err, List, None, Ok, Option, Result, Some, [], false, if◌then◌else◌, length, map, slice_index, slice_set, take, true, ℕ, ◌+◌, ◌++◌, ◌<◌, ◌==◌, ◌∷◌, ◌≡◌, ◌≤◌, ◌⊎◌}
use Rattle.zq_dots.specs.Placed.{Placed}
use Rattle.zq_model.specs.Books as book
use Rattle.zq_model.specs.Books.{Made, Step}
use Rattle.zq_journal.specs.Answers.{IfOps}
use Rattle.zq_journal.specs.Books.{step_of, steps_when}
use Rattle.zq_journal.specs.Records.{placed_at}
use Rattle.zq_journal.specs.Untouched.{is_among}
use Rattle.zq_journal.specs.declared.faults.MergeFault.{MergeFault}
use Rattle.zq_journal.specs.declared.faults.MergeFault.TheVariants as unmerged
use Rattle.zq_journal.specs.declared.faults.TakeFault.{TakeFault}
use Rattle.zq_journal.specs.declared.faults.TakeFault.TheVariants as untaken
use Rattle.zq_journal.specs.declared.faults.TakeOverFault.{TakeOverFault}
use Rattle.zq_journal.specs.declared.faults.TakeOverFault.TheVariants as kept
use Rattle.zq_journal.specs.declared.since.Since.{Since}
use Rattle.zq_journal.specs.declared.since.Since.TheVariants.{Ops, TooOld}
use Rattle.zq_model.specs.Heaps.{heap_of}
use Rattle.zq_model.specs.Image.{image_of}
use Rattle.zq_model.specs.Operation.{Operation, operation_over}
use Rattle.zq_model.specs.Rule.{Rule}
use Rattle.zq_model.specs.Sets.{AreSame, IsIn, New, covers, in_heap, taken_of, vector_of}
use Rattle.zq_model.specs.Tail.{lacking}
use Rattle.zq_model.specs.Moves.{Move, Queues}
use Rattle.zq_notes.specs.Notes.{Answer, Asked, Copied, Handed, HandedAll, Joined, Note, Portioned, Replied, RepliedEach, RepliedIf, Shown, TakenOver, ToCopy, ToDrain, ToMerge, ToPortion, ToRun, ToRunEach, ToRunWatched, ToShow, ToTake, ToTakeAll, ToTakeOver, ToTell, Told}
use Rattle.zq_semantics.specs.Doing.{drawn}
use Rattle.zq_semantics.specs.Plan.{is_there, plan_of}
use Rattle.zq_semantics.specs.Procedures.{Procedure, answered_over, procedure}
use Rattle.zq_semantics.specs.Ranges.{ranged, turned_if}
use Rattle.zq_semantics.specs.Replies.{bytes_of}
use Rattle.zq_semantics.specs.Run.{ForReply, IsReadShort, Memory, Number, Takes, Want, cut_error, cut_reply, takes_of}
use Rattle.zq_semantics.specs.Reading.{heaps_in, queues_over}
use Rattle.zq_semantics.specs.Watching.{AreUnchanged}
use Rattle.zq_shard.specs.Shard.{HeapImage}
use Rattle.zq_shard.specs.Taken.{answer_of}
use Rattle.zq_shard.specs.declared.spot.Spot.{Spot}
use Rattle.zq_shard.specs.declared.taken.Taken.{Taken}
use Rattle.zq_stage.specs.Portion.{IsPortion}
use Rattle.zq_stage.specs.declared.portion.Portion.{Portion}
use Rattle.zq_stage.specs.declared.portion.PortionLimits.{PortionLimits}
use Rattle.zq_spread.specs.Batches.{IsTakenSoFar}
use Rattle.zq_spread.specs.Watches.{Watch}
use Rattle.zq_spread.specs.declared.faults.ReadFault.{ReadFault}
use Rattle.zq_spread.specs.declared.faults.ReadFault.TheVariants as unread
use Rattle.zq_spread.specs.declared.taken_all.TakenAll.{TakenAll}
use Rattle.zq_words.specs.Command.{Command, Reading, Zpopnear, Zrange}
use Rattle.zq_words.specs.Words.{Word}

-- a command of so many moves may be cut after k of them: before a move that needs a number past its
-- last value, and for want of memory before a move, or for a reply that takes some
abbrev pub IsCutAt : Want → Takes → ℕ → ℕ → Type 0
IsCutAt Number takes k moves = k < moves
IsCutAt Memory (ForReply is_long counted) k moves = (k ≤ moves) × IsReadShort is_long counted
IsCutAt Memory takes k moves = k < moves

-- what a command comes to over these queues: its moves and its reply, which are those of its plan,
-- or those of a cut
pub data IsRunOver (queues : Queues) (command : Command) (moves : List Move)
    (reply : Word) : Type 0 where
  in_full : moves ≡ (plan_of command queues).moves →
      reply ≡ bytes_of (plan_of command queues).reply →
      IsRunOver queues command moves reply
  cut_off : (k : ℕ) → (want : Want) →
      IsCutAt want (takes_of command queues) k (length (plan_of command queues).moves) →
      moves ≡ take k (plan_of command queues).moves →
      reply ≡ bytes_of (cut_reply command queues k want) → IsRunOver queues command moves reply

-- and at a site of this set: over the queues of all heaps, or ZPOPNEAR over those of the two drawn
-- ones, where one of them has a member of the key
pub data IsRunOf (rule : Rule) (K : ℕ) (S : List Operation) (w1 w2 : ℕ) (command : Command)
    (moves : List Move) (reply : Word) : Type 0 where
  over_all : IsRunOver (queues_over rule S (heaps_in K)) command moves reply →
      IsRunOf rule K S w1 w2 command moves reply
  over_drawn : (key : Word) → command ≡ Zpopnear key →
      1 ≤ length (queues_over rule S (drawn K w1 w2) key) →
      IsRunOver (queues_over rule S (drawn K w1 w2)) command moves reply →
      IsRunOf rule K S w1 w2 command moves reply

-- what a procedure comes to over these queues, as a command does
pub data IsProcedureOver (queues : Queues) (p : Procedure) (moves : List Move)
    (reply : Word) : Type 0 where
  all_of : moves ≡ (p.plan queues).moves → reply ≡ bytes_of (p.plan queues).reply →
      IsProcedureOver queues p moves reply
  part_of : (k : ℕ) → (want : Want) →
      IsCutAt want (p.takes queues) k (length (p.plan queues).moves) →
      moves ≡ take k (p.plan queues).moves → reply ≡ bytes_of (p.cut queues k want) →
      IsProcedureOver queues p moves reply

-- what a site of this number makes of a move, where it has this set, of K heaps
abbrev pub operation_off : ℕ → ℕ → List Operation → Move → Operation
operation_off K site S move = operation_over (heap_of move.key move.member K)
    (vector_of S (heap_of move.key move.member K)) site move.key move.member move.act

-- the set with what the site makes of these moves, one after the other
abbrev pub with_moves : ℕ → ℕ → List Move → List Operation → List Operation
with_moves K site [] S = S
with_moves K site (move ∷ moves) S = with_moves K site moves (operation_off K site S move ∷ S)

-- procedures, one after the other, at a site of this number: the first over the queues of this set,
-- and each next one over those of the set with what those before it made. The moves are those of all
abbrev pub AreRunsOf : Rule → ℕ → ℕ → List Operation → List Procedure → List Move → List Word →
    Type 0
AreRunsOf rule K site S [] moves [] = moves ≡ []
AreRunsOf rule K site S (p ∷ ps) moves (reply ∷ replies) = (first : List Move)
    × (later : List Move) × (moves ≡ first ++ later)
    × IsProcedureOver (queues_over rule S (heaps_in K)) p first reply
    × AreRunsOf rule K site (with_moves K site first S) ps later replies
AreRunsOf rule K site S ps moves replies = ⊥

-- the steps of these moves in the heap h, of K, whose vector is v: each of its moves is the site's
-- next operation there
abbrev pub moved_in : ℕ → ℕ → ℕ → ℕ → List Move → List ℕ → List Step
moved_in K site stamp h [] v = []
moved_in K site stamp h (move ∷ moves) v =
    if heap_of move.key move.member K == h
    then step_of stamp (Made (operation_over h v site move.key move.member move.act))
    ∷ moved_in K site stamp h moves (slice_set v site (slice_index v site + 1))
    else moved_in K site stamp h moves v

-- the operations are those that the set has in the heap, of K, and the vector lacks. A set says
-- nothing of their order, nor whether one comes twice: over the book that the call found each of
-- them is new where it comes (`IsSince`)
pub record AreLacked (K : ℕ) (S : List Operation) (heap : ℕ) (vector : List ℕ)
    (ops : List Placed) : Type 0 where
  pub told : List Operation
  pub placed : ops ≡ map (placed_at K) told
  pub same : AreSame told (lacking vector (in_heap heap S))

-- the operations are the first of those, in their order, at most so many
pub record AreFirstLacked (K : ℕ) (S : List Operation) (heap : ℕ) (vector : List ℕ) (most : ℕ)
    (ops : List Placed) : Type 0 where
  pub told : List Operation
  pub placed : ops ≡ map (placed_at K) (take most told)
  pub same : AreSame told (lacking vector (in_heap heap S))

-- no step was made, or the book was told what was handed on: how much that is, by the count of its
-- steps, a set does not say
abbrev pub MayHandOn : ℕ → List (List Step) → Type 0
MayHandOn stamp steps = (steps ≡ [] ∷ [])
    ⊎ ((handed : ℕ) × (steps ≡ (book.HandedOn stamp handed ∷ []) ∷ []))

-- ---- each kind of call: what it answers and does, read off the set that the site has

-- a command of a site of this number: all that it makes lies in the heaps that it held, and these
-- are its steps in each
abbrev pub IsRunOff : Rule → ℕ → ℕ → List Operation → Command → ℕ → ℕ → ℕ → List ℕ → Word →
    List (List Step) → Type 0
IsRunOff rule K site S command w1 w2 stamp heaps reply steps =
    (moves : List Move) × IsRunOf rule K S w1 w2 command moves reply
    × (steps ≡ map (λ h. moved_in K site stamp h moves (vector_of S h)) heaps)
    × ((m : Move) → IsIn m moves → IsIn (heap_of m.key m.member K) heaps)

-- several things that a site of this number was asked, in all heaps: the steps are those of all their
-- moves in each
abbrev pub IsRunEachOff : Rule → ℕ → ℕ → List Operation → List Procedure → ℕ → List ℕ →
    List Word → List (List Step) → Type 0
IsRunEachOff rule K site S ps stamp heaps replies steps = (moves : List Move)
    × AreRunsOf rule K site S ps moves replies × (heaps ≡ heaps_in K)
    × (steps ≡ map (λ h. moved_in K site stamp h moves (vector_of S h)) heaps)

-- the same where the set has nothing on a watched key that came later; or no step was made. When
-- that is so a set does not say: a book may not know
abbrev pub IsRunWatchedOff : Rule → ℕ → ℕ → List Operation → Watch → List Procedure → ℕ →
    List ℕ → Option (List Word) → List (List Step) → Type 0
IsRunWatchedOff rule K site S watch ps stamp heaps (Some replies) steps =
    AreUnchanged S heaps watch.vectors (is_among watch.keys)
    × IsRunEachOff rule K site S ps stamp heaps replies steps
IsRunWatchedOff rule K site S watch ps stamp heaps None steps = (heaps ≡ heaps_in K)
    × (steps ≡ map (λ (h : ℕ). []) heaps)

-- an operation of another site; one that is new may be refused, since the book counts no further or
-- there was no memory, and no other
abbrev pub IsTakenOff : List Operation → Placed → ℕ → Result Taken TakeFault → List (List Step) →
    Type 0
IsTakenOff S op stamp (Ok taken) steps =
    (answer_of taken ≡ taken_of (vector_of S op.operation.heap) op.operation)
    × (steps
    ≡ steps_when (taken_of (vector_of S op.operation.heap) op.operation) stamp op.operation ∷ [])
IsTakenOff S op stamp (Err fault) steps =
    ((fault ≡ untaken.Worn) ⊎ (fault ≡ untaken.NoMemory))
    × (taken_of (vector_of S op.operation.heap) op.operation ≡ New) × (steps ≡ [] ∷ [])

-- the heap, of K, as a site of this rule has it that has the set
abbrev pub heap_as : Rule → ℕ → List Operation → ℕ → HeapImage
heap_as rule K S heap = record { heap = heap; heaps = K; rule = rule; image = image_of S heap }

-- operations of other sites in turn, as far as they were taken: whether the book counts no further,
-- so that a new one is refused, a set does not say
abbrev pub IsTakenAllOff : Rule → ℕ → List Operation → ℕ → List Placed → ℕ → TakenAll →
    List (List Step) → Type 0
IsTakenAllOff rule K S heap ops stamp answer steps = (count : ℕ) × (own : List Step)
    × (steps ≡ own ∷ []) × IsTakenSoFar stamp ops answer (heap_as rule K S heap) count own

-- a heap of another site, or it is refused for the same reasons
abbrev pub IsMergedOff : HeapImage → ℕ → Result (Unit {0}) MergeFault → List (List Step) → Type 0
IsMergedOff other stamp (Ok done) steps = steps ≡ (book.Merged stamp other.image ∷ []) ∷ []
IsMergedOff other stamp (Err fault) steps =
    ((fault ≡ unmerged.Worn) ⊎ (fault ≡ unmerged.NoMemory)) × (steps ≡ [] ∷ [])

-- a heap in the place of the site's own, whose vector covers what the site has there, or it is
-- refused, since it does not, or the book counts no further
abbrev pub IsTakenOverOff : HeapImage → List Operation → ℕ → Result (Unit {0}) TakeOverFault →
    List (List Step) → Type 0
IsTakenOverOff other S stamp (Ok done) steps =
    (covers other.image.vector (vector_of S other.heap) ≡ true)
    × (steps ≡ (book.TookOver stamp other.image ∷ []) ∷ [])
IsTakenOverOff other S stamp (Err fault) steps =
    ((fault ≡ kept.Worn)
    ⊎ ((fault ≡ kept.Lacks) × (covers other.image.vector (vector_of S other.heap) ≡ false)))
    × (steps ≡ [] ∷ [])

-- what a peer of this vector lacks of a heap: where it is not too old for the book's tail, which a
-- set does not say; or there was no memory
abbrev pub IsToldOff : ℕ → List Operation → ℕ → List ℕ → Result Since ReadFault → List (List Step) →
    Type 0
IsToldOff K S heap vector (Ok since) steps =
    IfOps since (AreLacked K S heap vector) × (steps ≡ [] ∷ [])
IsToldOff K S heap vector (Err fault) steps = (fault ≡ unread.NoMemory) × (steps ≡ [] ∷ [])

-- the first that a log of this vector lacks of a heap, as what a peer lacks is told; then its book
-- may be told what was handed on
abbrev pub IsDrainedOff : ℕ → List Operation → ℕ → List ℕ → ℕ → ℕ → Result Since ReadFault →
    List (List Step) → Type 0
IsDrainedOff K S heap vector most stamp (Ok (Ops ops)) steps =
    AreFirstLacked K S heap vector most ops.items × MayHandOn stamp steps
IsDrainedOff K S heap vector most stamp (Ok TooOld) steps = steps ≡ [] ∷ []
IsDrainedOff K S heap vector most stamp (Err fault) steps = (fault ≡ unread.NoMemory)
    × (steps ≡ [] ∷ [])

-- a copy of a heap, or there was no memory
abbrev pub IsCopiedOff : Rule → ℕ → List Operation → ℕ → Result HeapImage ReadFault →
    List (List Step) → Type 0
IsCopiedOff rule K S heap (Ok copy) steps =
    (copy ≡ record { heap = heap; heaps = K; rule = rule; image = image_of S heap })
    × (steps ≡ [] ∷ [])
IsCopiedOff rule K S heap (Err fault) steps = (fault ≡ unread.NoMemory) × (steps ≡ [] ∷ [])

-- a portion of a heap, or there was no memory
abbrev pub IsPortionedOff : Rule → ℕ → List Operation → ℕ → Spot → PortionLimits →
    Result Portion ReadFault → List (List Step) → Type 0
IsPortionedOff rule K S heap spot limits (Ok portion) steps =
    IsPortion (heap_as rule K S heap) spot limits portion.part portion.next × (steps ≡ [] ∷ [])
IsPortionedOff rule K S heap spot limits (Err fault) steps = (fault ≡ unread.NoMemory)
    × (steps ≡ [] ∷ [])

-- which operations of a heap it has
abbrev pub IsShownOff : List Operation → ℕ → List ℕ → List (List Step) → Type 0
IsShownOff S heap vector steps = (vector ≡ vector_of S heap) × (steps ≡ [] ∷ [])

-- what was asked, the stamp, the heaps, the answer and the steps in each heap
abbrev pub IsAnswerOf : Rule → ℕ → ℕ → List Operation → Asked → ℕ → List ℕ → Answer →
    List (List Step) → Type 0
IsAnswerOf rule K site S (ToRun command w1 w2) stamp heaps (Replied reply) steps =
    IsRunOff rule K site S command w1 w2 stamp heaps reply steps
IsAnswerOf rule K site S (ToRunEach calls) stamp heaps (RepliedEach replies) steps =
    IsRunEachOff rule K site S (map procedure calls) stamp heaps replies steps
IsAnswerOf rule K site S (ToRunWatched watch calls) stamp heaps (RepliedIf replies) steps =
    IsRunWatchedOff rule K site S watch (map procedure calls) stamp heaps replies steps
IsAnswerOf rule K site S (ToTake op) stamp heaps (Handed result) steps =
    IsTakenOff S op stamp result steps
IsAnswerOf rule K site S (ToTakeAll heap ops) stamp heaps (HandedAll answer) steps =
    IsTakenAllOff rule K S heap ops stamp answer steps
IsAnswerOf rule K site S (ToMerge other) stamp heaps (Joined result) steps =
    IsMergedOff other stamp result steps
IsAnswerOf rule K site S (ToTakeOver other) stamp heaps (TakenOver result) steps =
    IsTakenOverOff other S stamp result steps
IsAnswerOf rule K site S (ToTell heap vector) stamp heaps (Told result) steps =
    IsToldOff K S heap vector result steps
IsAnswerOf rule K site S (ToDrain heap vector most) stamp heaps (Told result) steps =
    IsDrainedOff K S heap vector most stamp result steps
IsAnswerOf rule K site S (ToCopy heap) stamp heaps (Copied result) steps =
    IsCopiedOff rule K S heap result steps
IsAnswerOf rule K site S (ToPortion heap spot limits) stamp heaps (Portioned result) steps =
    IsPortionedOff rule K S heap spot limits result steps
IsAnswerOf rule K site S (ToShow heap) stamp heaps (Shown vector) steps =
    IsShownOff S heap vector steps
IsAnswerOf rule K site S asked stamp heaps answer steps = ⊥

abbrev pub IsReadOff : Rule → ℕ → ℕ → List Operation → Note → Type 0
IsReadOff rule K site S n = IsAnswerOf rule K site S n.asked n.stamp n.heaps n.answer n.steps

-- the answer over these queues is a list with something in it
abbrev pub is_list : Queues → Reading → Bool
is_list queues (Ok (Zrange key range is_turned with_scores)) =
    is_there (ranged range (turned_if is_turned (queues key)))
is_list queues reading = false

-- the answer, or, where that is such a list, that there was no memory for it
abbrev pub IsOrShort : Bool → Word → Word → Type 0
IsOrShort is_list answer reply = (reply ≡ answer)
    ⊎ ((is_list ≡ true) × (reply ≡ bytes_of (cut_error 0 Memory)))

-- each of these procedures is answered what the queues answer, or, where it is cut at once, that
-- there was no memory for it
abbrev pub AreAnswersOver : Queues → List Procedure → List Word → Type 0
AreAnswersOver queues [] [] = Unit {0}
AreAnswersOver queues (p ∷ ps) (reply ∷ replies) = ((reply ≡ answered_over queues p)
    ⊎ (reply ≡ bytes_of (p.cut queues 0 Memory))) × AreAnswersOver queues ps replies
AreAnswersOver queues ps replies = ⊥
