-- What is promised of logs and of their batches.

use Rattle.std.specs.Prelude.{Bool, List, [], drop, filter, length, slice_index, take, true, ℕ, ◌+◌, ◌++◌, ◌-◌, ◌<◌, ◌∷◌, ◌≡◌, ◌≤◌, ◌⊎◌}
use Rattle.zq_backlog.specs.Batch.{IsLooked, from_place, is_of, is_wanted, picked, sent_after, start_of, taken_of, window}
use Rattle.zq_backlog.specs.Log.{IsLog, Log, added, end_of, risen}
use Rattle.zq_backlog.specs.Written.{weights}
use Rattle.zq_dots.specs.Placed.{IsRanged, Placed}
use Rattle.zq_model.specs.Sets.{IsCounters, IsIn}

-- ---- logs

-- A log stays one.
abbrev pub StaysLog : Type 0
StaysLog = (o : Placed) (l : Log) → IsRanged o → IsLog l → IsLog (added o l)

-- No operation is invented, and those that stay keep their order and their places.
abbrev pub NoneIsInvented : Type 0
NoneIsInvented = (o : Placed) (l : Log) → (k : ℕ) × ((added o l).first ≡ l.first + k)
    × (((added o l).ops ≡ drop k l.ops) ⊎ ((added o l).ops ≡ drop k (l.ops ++ o ∷ [])))

-- The one that comes stays where it was not known.
abbrev pub NewestStays : Type 0
NewestStays = (o : Placed) (l : Log) → slice_index l.last o.operation.site < o.operation.n →
    IsIn o (added o l).ops

-- After it the log has no more bytes than the most, or one operation.
abbrev pub IsBounded : Type 0
IsBounded = (o : Placed) (l : Log) → slice_index l.last o.operation.site < o.operation.n →
    (weights (added o l).ops ≤ l.most) ⊎ (length (added o l).ops ≡ 1)

-- ---- batches

-- each operation of the class below the place has been sent
abbrev pub IsSentBelow : Log → ℕ → List Bool → List ℕ → Type 0
IsSentBelow l place class sent = (o : Placed) → IsIn o (take (place - l.first) l.ops) →
    is_of class o.operation.site ≡ true → o.operation.n ≤ slice_index sent o.operation.site

-- what the log no longer has of the class has been sent
abbrev pub HasBase : Log → List Bool → List ℕ → Type 0
HasBase l class sent = (t : ℕ) → is_of class t ≡ true → slice_index l.base t ≤ slice_index sent t

-- each is the next of its site
abbrev pub AreNext : List ℕ → List Placed → Type 0
AreNext sent [] = Unit {0}
AreNext sent (o ∷ ops) =
    (o.operation.n ≡ slice_index sent o.operation.site + 1) × AreNext (risen sent o) ops

-- A batch has the first of those operations from the place on that the peer wants.
abbrev pub IsPushed : Type 0
IsPushed =
    (l : Log) (place : ℕ) (class : List Bool) (sent : List ℕ) (next : ℕ) → IsLog l →
    IsCounters sent → (rest : List Placed)
    × (filter (is_wanted class sent) (from_place l place)
    ≡ taken_of l place class sent next ++ rest)

-- What is looked at is sent, or was.
abbrev pub NoneIsLeftOut : Type 0
NoneIsLeftOut =
    (l : Log) (place : ℕ) (class : List Bool) (sent : List ℕ) (next : ℕ) → IsLog l →
    IsCounters sent → next - start_of l place ≤ length (window l place) → start_of l place ≤ next →
    IsSentBelow l place class sent → IsSentBelow l next class (sent_after l place class sent next)

-- No operation of a batch is ahead of its site's next one.
abbrev pub NoneIsAhead : Type 0
NoneIsAhead =
    (l : Log) (place : ℕ) (class : List Bool) (sent : List ℕ) (next : ℕ) → IsLog l →
    IsCounters sent → HasBase l class sent → IsSentBelow l place class sent →
    AreNext sent (taken_of l place class sent next)

-- Where a batch comes to the end, all of the class has been sent.
abbrev pub AllAreSent : Type 0
AllAreSent =
    (l : Log) (place : ℕ) (class : List Bool) (sent : List ℕ) (next : ℕ) → IsLog l →
    IsCounters sent → next - start_of l place ≤ length (window l place) → start_of l place ≤ next →
    HasBase l class sent → IsSentBelow l place class sent → end_of l ≤ next →
    (t : ℕ) → is_of class t ≡ true →
    slice_index l.last t ≤ slice_index (sent_after l place class sent next) t

-- A batch has no more operations than are allowed, and no more than are looked at.
abbrev pub AreFew : Type 0
AreFew =
    (class : List Bool) (sent : List ℕ) (allow : ℕ) (ops : List Placed) (k : ℕ) →
    IsLooked class sent allow ops k → length (picked class sent (take k ops)) ≤ allow

-- A batch looks at one number of operations.
abbrev pub IsOne : Type 0
IsOne =
    (class : List Bool) (sent : List ℕ) (allow : ℕ) (ops : List Placed) (j k : ℕ) →
    IsLooked class sent allow ops j → IsLooked class sent allow ops k → j ≡ k
