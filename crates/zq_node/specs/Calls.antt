-- The calls of its site that a node makes with its pass.

use Rattle.std.specs.Prelude.{Err, List, Ok, [], true, ℕ, ◌≡◌, ◌≢◌, ◌∷◌, ◌⊎◌}
use Rattle.zq_dots.specs.Placed.{Placed}
use Rattle.zq_journal.specs.declared.faults.TakeFault.TheVariants as unheld
use Rattle.zq_journal.specs.declared.since.Since.{Since}
use Rattle.zq_model.specs.Operation.{has}
use Rattle.zq_model.specs.Sets as sets
use Rattle.zq_shard.specs.Shard.{HeapImage}
use Rattle.zq_shard.specs.declared.spot.Spot.{Spot}
use Rattle.zq_shard.specs.declared.taken.Taken.{Taken}
use Rattle.zq_shard.specs.declared.taken.Taken.TheVariants as taken
use Rattle.zq_spread.specs.Answers.{IsAsked, IsCopied, IsDrained, IsMerged, IsPortioned, IsShown, IsSince, IsTaken, IsTakenOver}
use Rattle.zq_spread.specs.Batches.{IsTakenAll}
use Rattle.zq_spread.specs.Calls.{HasSeenBook, IsCall, IsLikeSite, IsOfSite}
use Rattle.zq_spread.specs.Passes.{steps_at}
use Rattle.zq_spread.specs.Worn.{IsWornIn}
use Rattle.zq_spread.specs.declared.pass.Pass.{Pass}
use Rattle.zq_spread.specs.declared.site.Site.{Site}
use Rattle.zq_spread.specs.declared.taken_all.TakenAll.{TakenAll}
use Rattle.zq_stage.specs.declared.portion.Portion.{Portion}
use Rattle.zq_stage.specs.declared.portion.PortionLimits.{PortionLimits}

-- a call that the site answered: it took an operation, or several in a heap, merged a heap, took one
-- in the place of its own, showed the vector of a heap, said what a peer of a vector lacks, copied a
-- heap or a portion of it, or gave a log of a vector what it lacks, at most so many operations
pub data Call : Type 0 where
  Took : (op : Placed) (answer : Taken) → Call
  TookAll : (heap : ℕ) (ops : List Placed) (answer : TakenAll) → Call
  Merged : (shard : HeapImage) → Call
  TookOver : (shard : HeapImage) → Call
  Saw : (heap : ℕ) (vector : List ℕ) → Call
  Asked : (heap : ℕ) (vector : List ℕ) (answer : Since) → Call
  Copied : (heap : ℕ) (shard : HeapImage) → Call
  Portioned : (heap : ℕ) (spot : Spot) (limits : PortionLimits) (portion : Portion) → Call
  Drained : (heap : ℕ) (vector : List ℕ) (most : ℕ) (answer : Since) → Call

-- the pass made this call of the site, and it was answered so
abbrev pub IsCalled : Site → Pass → Pass → Call → Type 0
IsCalled site before after (Took op answer) = IsOfSite site op
    × IsCall (IsTaken after.stamp op (Ok answer)) before after (op.operation.heap ∷ [])
IsCalled site before after (TookAll heap ops answer) =
    IsCall (IsTakenAll after.stamp ops answer) before after (heap ∷ [])
IsCalled site before after (Merged shard) = IsLikeSite site shard
    × IsCall (IsMerged after.stamp shard (Ok tt)) before after (shard.heap ∷ [])
IsCalled site before after (TookOver shard) = IsLikeSite site shard
    × IsCall (IsTakenOver after.stamp shard (Ok tt)) before after (shard.heap ∷ [])
IsCalled site before after (Saw heap vector) = IsCall (IsShown vector) before after (heap ∷ [])
IsCalled site before after (Asked heap vector answer) =
    IsCall (IsAsked (Ok answer)) before after (heap ∷ [])
    × HasSeenBook after heap (IsSince vector answer)
IsCalled site before after (Copied heap shard) =
    IsCall (IsCopied (Ok shard)) before after (heap ∷ [])
IsCalled site before after (Portioned heap spot limits portion) =
    IsCall (IsPortioned spot limits (Ok portion)) before after (heap ∷ [])
IsCalled site before after (Drained heap vector most answer) =
    IsCall (IsDrained after.stamp vector most (Ok answer)) before after (heap ∷ [])

-- the site had no memory to take the operation, which was New to it
abbrev pub HadNoRoom : Site → Pass → Pass → Placed → Type 0
HadNoRoom site before after op = IsOfSite site op
    × IsCall (IsTaken after.stamp op (Err unheld.NoMemory)) before after (op.operation.heap ∷ [])

-- the site found a last value as it was handed the operation: that of its lock or of the stamp; or
-- that of its count, where the operation was New to it
abbrev pub WasAtLast : Site → Pass → Pass → Placed → Type 0
WasAtLast site before after op =
    IsOfSite site op × (IsCall (IsTaken after.stamp op (Err unheld.Worn)) before after
    (op.operation.heap ∷ []) ⊎ IsWornIn (op.operation.heap ∷ []) before after)

-- the pass made these calls, one after the other, and no others
abbrev pub AreCalled : Site → Pass → Pass → List Call → Type 0
AreCalled site before after [] = after ≡ before
AreCalled site before after (c ∷ calls) = (next : Pass) × IsCalled site before next c
    × AreCalled site next after calls

-- by one of these calls the operation was taken, or it was known
abbrev pub WasTaken : List Call → Placed → Type 0
WasTaken calls o = (answer : Taken) × (answer ≢ taken.Early) × sets.IsIn (Took o answer) calls

-- nothing was recorded and nothing merged by the pass, and no book was told what was handed on
abbrev pub MadeNoStep : Pass → Pass → Type 0
MadeNoStep before after = (h : ℕ) → steps_at after h ≡ steps_at before h

-- the operation is in the vector that the pass has seen of its heap
abbrev pub IsKnownTo : Pass → Placed → Type 0
IsKnownTo pass o = HasSeenBook pass o.operation.heap
    (λ b. has b.state.vector o.operation.site o.operation.n ≡ true)

-- the operation is Early by what the pass has seen of its heap
abbrev pub IsEarlyTo : Pass → Placed → Type 0
IsEarlyTo pass o = HasSeenBook pass o.operation.heap
    (λ b. sets.taken_of b.state.vector o.operation ≡ sets.Early)
