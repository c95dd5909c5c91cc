-- What calls answer and do, over the books that they hold, and their own steps in each.

use Rattle.std.specs.List.{All}
use Rattle.std.specs.Prelude.{Err, List, Ok, Result, Some, [], false, map, not, take, true, ℕ, ◌+◌, ◌-◌, ◌∷◌, ◌≡◌, ◌≢◌, ◌⊎◌}
use Rattle.zq_dots.specs.Placed.{Placed}
use Rattle.zq_model.specs.Books.{Book, HandedOn, Merged, Step, TookOver, operations_of}
use Rattle.zq_model.specs.Reach.{IsWorked, begun}
use Rattle.zq_journal.specs.Answers.{IfOps, is_too_old}
use Rattle.zq_journal.specs.Books.{IsPeer, LAST_STAMP, base_of, state_of, steps_taken}
use Rattle.zq_journal.specs.Records.{placed_at}
use Rattle.zq_journal.specs.declared.faults.MergeFault.{MergeFault}
use Rattle.zq_journal.specs.declared.faults.MergeFault.TheVariants as unmerged
use Rattle.zq_journal.specs.declared.faults.TakeOverFault.{TakeOverFault}
use Rattle.zq_journal.specs.declared.faults.TakeOverFault.TheVariants as kept
use Rattle.zq_journal.specs.declared.faults.TakeFault.{TakeFault}
use Rattle.zq_journal.specs.declared.faults.TakeFault.TheVariants.{NoMemory, WrongHeap, Worn}
use Rattle.zq_journal.specs.declared.since.Since.{Since}
use Rattle.zq_journal.specs.declared.since.Since.TheVariants.{Ops, TooOld}
use Rattle.zq_model.specs.Image.{image_of, join}
use Rattle.zq_model.specs.Operation.{Operation}
use Rattle.zq_model.specs.Sets as sets
use Rattle.zq_model.specs.Tail.{AreNew, image_after_all, lacking, lacking_from}
use Rattle.zq_shard.specs.Shard.{HeapImage, IsOfHeap}
use Rattle.zq_shard.specs.Taken.{answer_of}
use Rattle.zq_shard.specs.declared.spot.Spot.{Spot}
use Rattle.zq_shard.specs.declared.taken.Taken.{Taken}
use Rattle.zq_stage.specs.Portion.{IsPortion}
use Rattle.zq_stage.specs.declared.portion.Portion.{Portion}
use Rattle.zq_stage.specs.declared.portion.PortionLimits.{PortionLimits}
use Rattle.zq_spread.specs.declared.faults.ReadFault.{ReadFault}
use Rattle.zq_spread.specs.declared.faults.ReadFault.TheVariants as unread

-- an operation was taken, or refused as the book refuses it
abbrev pub taken_in : ℕ → Placed → Result Taken TakeFault → Book → List Step → Type 0
taken_in stamp p (Ok taken) b steps = (answer_of taken ≡ sets.taken_of b.state.vector p.operation)
    × (steps ≡ steps_taken b stamp p.operation)
taken_in stamp p (Err WrongHeap) b steps = ⊥
taken_in stamp p (Err Worn) b steps = (sets.taken_of b.state.vector p.operation ≡ sets.New)
    × (b.count ≡ LAST_STAMP) × (steps ≡ [])
taken_in stamp p (Err NoMemory) b steps = (sets.taken_of b.state.vector p.operation ≡ sets.New)
    × (steps ≡ [])

abbrev pub IsTaken : ℕ → Placed → Result Taken TakeFault → List Book → List (List Step) → Type 0
IsTaken stamp p result (b ∷ []) (steps ∷ []) = taken_in stamp p result b steps
IsTaken stamp p result books steps = ⊥

-- another heap was merged, or refused as the book refuses it
abbrev pub merged_in : ℕ → HeapImage → Result (Unit {0}) MergeFault → Book → List Step → Type 0
merged_in stamp other (Ok done) b steps = (b.count ≢ LAST_STAMP)
    × (steps ≡ Merged stamp other.image ∷ [])
merged_in stamp other (Err unmerged.WrongHeap) b steps = ⊥
merged_in stamp other (Err unmerged.WrongRule) b steps = ⊥
merged_in stamp other (Err unmerged.Worn) b steps = (b.count ≡ LAST_STAMP) × (steps ≡ [])
merged_in stamp other (Err unmerged.NoMemory) b steps = (b.count ≢ LAST_STAMP) × (steps ≡ [])

abbrev pub IsMerged : ℕ → HeapImage → Result (Unit {0}) MergeFault → List Book → List (List Step) →
    Type 0
IsMerged stamp other result (b ∷ []) (steps ∷ []) = merged_in stamp other result b steps
IsMerged stamp other result books steps = ⊥

-- another heap, which has all that the book has, took the place of its own, or was refused as the
-- book refuses it
abbrev pub taken_over_in : ℕ → HeapImage → Result (Unit {0}) TakeOverFault → Book → List Step →
    Type 0
taken_over_in stamp other (Ok done) b steps =
    (sets.covers other.image.vector b.state.vector ≡ true) × (b.count ≢ LAST_STAMP)
    × (steps ≡ TookOver stamp other.image ∷ [])
taken_over_in stamp other (Err kept.WrongHeap) b steps = ⊥
taken_over_in stamp other (Err kept.WrongRule) b steps = ⊥
taken_over_in stamp other (Err kept.Worn) b steps = (b.count ≡ LAST_STAMP) × (steps ≡ [])
taken_over_in stamp other (Err kept.Lacks) b steps =
    (sets.covers other.image.vector b.state.vector ≡ false) × (steps ≡ [])

abbrev pub IsTakenOver : ℕ → HeapImage → Result (Unit {0}) TakeOverFault → List Book →
    List (List Step) → Type 0
IsTakenOver stamp other result (b ∷ []) (steps ∷ []) = taken_over_in stamp other result b steps
IsTakenOver stamp other result books steps = ⊥

-- the book is a after the own steps of one call of this stamp, and these do what is asked
abbrev pub HasWorked : (List Book → List (List Step) → Type 0) → Book → Book → ℕ → Type 0
HasWorked Does b a stamp = (steps : List Step) × IsWorked b a stamp steps
    × Does (a ∷ []) (steps ∷ [])

-- the vector of the heap was shown
abbrev pub IsShown : List ℕ → List Book → List (List Step) → Type 0
IsShown vector (b ∷ []) (steps ∷ []) = (vector ≡ b.state.vector) × (steps ≡ [])
IsShown vector books steps = ⊥

-- something was read of the book, or memory was refused
abbrev pub read_of : {A : Type 0} → (A → Book → Type 0) → Result A ReadFault → Book → Type 0
read_of Shows (Ok shown) b = Shows shown b
read_of Shows (Err unread.Worn) b = ⊥
read_of Shows (Err unread.NoMemory) b = Unit {0}

abbrev pub IsCopyOf : HeapImage → Book → Type 0
IsCopyOf shard b = shard ≡ state_of b

-- the heap was copied
abbrev pub IsCopied : Result HeapImage ReadFault → List Book → List (List Step) → Type 0
IsCopied result (b ∷ []) (steps ∷ []) = read_of IsCopyOf result b × (steps ≡ [])
IsCopied result books steps = ⊥

abbrev pub IsPortionOf : Spot → PortionLimits → Portion → Book → Type 0
IsPortionOf spot limits portion b =
    IsPortion (state_of b) spot limits portion.part portion.next

-- a portion of the heap was copied, from this spot of a walk on
abbrev pub IsPortioned : Spot → PortionLimits → Result Portion ReadFault → List Book →
    List (List Step) → Type 0
IsPortioned spot limits result (b ∷ []) (steps ∷ []) =
    read_of (IsPortionOf spot limits) result b × (steps ≡ [])
IsPortioned spot limits result books steps = ⊥

-- the book was asked, and no step was made
abbrev pub IsAsked : Result Since ReadFault → List Book → List (List Step) → Type 0
IsAsked result (b ∷ []) (steps ∷ []) = read_of (λ (since : Since) (book : Book). Unit {0}) result b
    × (steps ≡ [])
IsAsked result books steps = ⊥

-- what a peer of the vector v lacks of the book: it is too old exactly where v does not cover the
-- base's vector, else these are the operations of the tail that v lacks; each is new to the peer
-- where it comes, and all of them leave what merging the whole state would
pub record IsSince (v : List ℕ) (since : Since) (b : Book) : Type 0 where
  pub too_old : is_too_old since ≡ not (sets.covers v b.base.vector)
  pub ops : IfOps since (λ ops. ops ≡ map (placed_at b.heaps) (lacking v (operations_of b.tail)))
  pub placed : IfOps since (λ ops. All (IsOfHeap (base_of b)) ops)
  pub new : IfOps since (λ ops. (S T : List Operation) → IsPeer b S T v →
      AreNew (map (λ p. p.operation) ops) (image_of T b.heap))
  pub merges : IfOps since (λ ops. (S T : List Operation) → IsPeer b S T v →
      image_after_all (map (λ p. p.operation) ops) (image_of T b.heap)
      ≡ join (image_of T b.heap) b.state)

-- the oldest that a log of the vector v lacks of the book, at most so many: it is too old exactly
-- where v does not cover the base's vector
pub record IsFirstSince (v : List ℕ) (most : ℕ) (since : Since) (b : Book) : Type 0 where
  pub too_old : is_too_old since ≡ not (sets.covers v b.base.vector)
  pub ops : IfOps since
      (λ ops. ops ≡ map (placed_at b.heaps) (take most (lacking v (operations_of b.tail))))
  pub placed : IfOps since (λ ops. All (IsOfHeap (base_of b)) ops)

-- how many of the book's newest records were not handed on to a log of the vector v: those from the
-- oldest on that it lacks
abbrev pub unhanded_of : List ℕ → Book → ℕ
unhanded_of v b = lacking_from v (operations_of b.tail)

-- the book has been told that all its steps were handed on but those that made its newest records, so
-- many
abbrev pub KnowsHanded : ℕ → Book → Type 0
KnowsHanded newest b = b.handed ≡ Some (b.count - newest)

-- it is told that, unless it knows, or its count is at its last value
abbrev pub AreHandings : ℕ → ℕ → Book → List Step → Type 0
AreHandings stamp newest b steps =
    ((steps ≡ []) × (KnowsHanded newest b ⊎ (b.count ≡ LAST_STAMP)))
    ⊎ ((steps ≡ HandedOn stamp (b.count + 1 - newest) ∷ []) × (KnowsHanded newest b → ⊥)
    × (b.count ≢ LAST_STAMP))

-- the book b, at which a call of this stamp over the book a has made no step, became new so
abbrev pub IsHandedOn : ℕ → ℕ → Book → Book → Book → Type 0
IsHandedOn stamp newest b new a = (steps : List Step) × IsWorked new a stamp steps
    × AreHandings stamp newest b steps

-- the book is told what was handed on to a log of the vector v, where that is not too old
abbrev pub AreDrainSteps : ℕ → List ℕ → Result Since ReadFault → Book → List Step → Type 0
AreDrainSteps stamp v (Ok (Ops ops)) b steps = AreHandings stamp (unhanded_of v b) b steps
AreDrainSteps stamp v (Ok TooOld) b steps = steps ≡ []
AreDrainSteps stamp v (Err fault) b steps = steps ≡ []

-- a log of the vector v was given the oldest that it lacks, at most so many, of the book as a call
-- of this stamp begins with it, and the book was told what had been handed on
abbrev pub IsDrained : ℕ → List ℕ → ℕ → Result Since ReadFault → List Book → List (List Step) →
    Type 0
IsDrained stamp v most result (b ∷ []) (steps ∷ []) =
    read_of (λ (since : Since) (book : Book). IsFirstSince v most since (begun stamp book)) result b
    × AreDrainSteps stamp v result (begun stamp b) steps
IsDrained stamp v most result books steps = ⊥
