-- A keeper, and what a crash leaves of its log.

use Rattle.std.specs.Prelude.{Bool, IfSome, IsSome, List, None, Option, Some, [], false, length, not, slice_get, true, ℕ, ◌+◌, ◌++◌, ◌∷◌, ◌≡◌, ◌≤◌, ◌⊎◌}
use Rattle.zq_dots.specs.Placed.{Placed}
use Rattle.zq_entries.specs.Entry.{Entry, OfStart, start_of}
use Rattle.zq_entries.specs.Spelling.{entry_bytes}
use Rattle.zq_entries.specs.declared.start.Start.{Start}
use Rattle.zq_fields.specs.Vectors.{no_counters}
use Rattle.zq_keeper.specs.Operations.{TakesEach, chosen}
use Rattle.zq_keeper.specs.Outline.{AreAllWhole, AreCounted, Cover}
use Rattle.zq_keeper.specs.Read.{IsReadAs}
use Rattle.zq_keeper.specs.declared.fault.KeeperFault.{KeeperFault}
use Rattle.zq_keeper.specs.declared.fault.KeeperFault.TheVariants.{Failed, NoMemory, NoSwitch, Refused, Stopped}
use Rattle.zq_keeper.specs.declared.keeper.Keeper.{Keeper}
use Rattle.zq_keeper.specs.declared.next.Next.{Next}
use Rattle.zq_keeper.specs.declared.outline.Outline.{Outline}
use Rattle.zq_model.specs.Sets.{IsHeaps, covers}
use Rattle.zq_recovery.specs.Opening.{IsNextStart, IsOf}
use Rattle.zq_recovery.specs.declared.opening.Identity.{Identity}
use Rattle.zq_wal.specs.Format.{is_corrupt, payload_over, recovered}
use Rattle.zq_wal.specs.Wal.{IsLog}

-- what is told of a heap
abbrev pub vector_in : Option Outline → List ℕ
vector_in None = no_counters
vector_in (Some x) = x.vector

abbrev pub told_of : List Outline → ℕ → List ℕ
told_of outlines heap = vector_in (slice_get outlines heap)

-- the next file has operations of a heap that the log lacks
abbrev pub is_ahead_of : List Outline → Option Next → ℕ → Bool
is_ahead_of outlines None heap = false
is_ahead_of outlines (Some n) heap =
    not (covers (told_of outlines heap) (told_of n.heaps.items heap))

-- ---- a keeper

-- a start that a keeper goes on from
pub record IsStartOf (i : Identity) (s : Start) : Type 0 where
  pub of : IsOf i s
  pub some : 1 ≤ s.number

-- the next file, where a switch is going on: it is read, and says this
abbrev pub IsNextFile : Identity → Option Start → Option ℕ → Option Next → List (List ℕ) → Type 0
IsNextFile i start file None payloads = Unit {0}
IsNextFile i start file (Some n) payloads =
    IsSome file × IsReadAs i payloads start n.heaps.items × AreCounted n.heaps.items

-- all records of the log are synced, and are read as what the keeper tells; so are those of the
-- next file
pub record IsKeeper {D : Type 0} (seen staged : D → List ℕ) (may_leave : D → List ℕ → Type 0)
    (k : Keeper D) : Type 0 where
  pub log : IsLog seen staged may_leave k.wal
  pub synced : k.wal.synced ≡ length (recovered (seen k.wal.disk))
  pub heaps : IsHeaps k.identity.heaps
  pub start : k.begun ≡ true → IfSome k.start (IsStartOf k.identity)
  pub begun : k.begun ≡ true → IsSome k.start
  pub alone : k.begun ≡ false → k.next ≡ None
  pub read : IsReadAs k.identity (recovered (seen k.wal.disk)) k.start k.heaps.items
  pub whole : AreAllWhole k.heaps.items
  pub next : IsNextFile k.identity k.start k.wal.next k.next (recovered (staged k.wal.disk))

-- a keeper that has not stopped is one
abbrev pub GoesOn : {D : Type 0} → (D → List ℕ) → (D → List ℕ) → (D → List ℕ → Type 0) →
    Keeper D → Type 0
GoesOn seen staged may_leave k = k.stopped ≡ false → IsKeeper seen staged may_leave k

-- ---- what a call leaves as it was

-- whose log, and which start of it
pub record IsSameSite {D : Type 0} (old new : Keeper D) : Type 0 where
  pub identity : new.identity ≡ old.identity
  pub start : new.start ≡ old.start
  pub begun : new.begun ≡ old.begun

-- and what the log says of the heaps
pub record IsStill {D : Type 0} (old new : Keeper D) : Type 0 where
  pub site : IsSameSite old new
  pub heaps : new.heaps ≡ old.heaps

-- after these faults the keeper is as it was
abbrev pub has_stayed : KeeperFault → Bool
has_stayed NoMemory = true
has_stayed (Refused r) = true
has_stayed (Failed e) = false
has_stayed NoSwitch = true
has_stayed Stopped = true

-- it has stopped
abbrev pub HasFailed : {D : Type 0} → Keeper D → KeeperFault → Type 0
HasFailed k e = (k.stopped ≡ true) × (has_stayed e ≡ false)

-- it is as it was, or has stopped, and tells of the heaps what it told
abbrev pub Stays : {D : Type 0} → Keeper D → Keeper D → KeeperFault → Type 0
Stays old new e = (has_stayed e ≡ true → new ≡ old)
    × (has_stayed e ≡ false → (new.stopped ≡ true) × (new.heaps ≡ old.heaps))

-- the number of the start behind this one
abbrev pub number_behind : Option Start → ℕ
number_behind None = 1
number_behind (Some s) = s.number + 1

-- what the next file says of the heaps after a round: the batches of those heaps whose pieces have
-- begun are in it
abbrev pub Shares : Identity → List (List Placed) → Option Next → Option Next → Type 0
Shares i batches None new = new ≡ None
Shares i batches (Some n) None = ⊥
Shares i batches (Some n) (Some m) =
    TakesEach i (chosen n.parts.items batches) n.heaps.items m.heaps.items
    × (m.parts.items ≡ n.parts.items)

-- ---- what a crash leaves

-- the records with this entry behind them, which is committed
abbrev pub with_entry : List (List ℕ) → Entry → List (List ℕ)
with_entry payloads e = payloads ++ payload_over (length payloads) (entry_bytes e) ∷ []

-- What a crash leaves: no damage; these records, or those; they are all read, no piece is missing,
-- and each heap has all that was told of it.
pub record Leaves (i : Identity) (told : List Outline) (these those : List (List ℕ)) (c : List ℕ)
    : Type 0 where
  pub sound : is_corrupt c ≡ false
  pub records : (recovered c ≡ these) ⊎ (recovered c ≡ those)
  pub start : Option Start
  pub said : List Outline
  pub read : IsReadAs i (recovered c) start said
  pub whole : AreAllWhole said
  pub covers : Cover said told

-- ---- a start

-- the start behind the old one, of this number
pub record IsBegun (i : Identity) (old : Option Start) (n : ℕ) (new : Option Start) : Type 0 where
  pub start : Start
  pub noted : new ≡ Some start
  pub number : start.number ≡ n
  pub next : IsNextStart i old start

abbrev pub with_start : List (List ℕ) → Option Start → List (List ℕ)
with_start payloads None = payloads
with_start payloads (Some s) = with_entry payloads (OfStart (start_of s))

-- a crash leaves the records as they were, or with a start behind the old one
abbrev pub LeavesStart : Identity → List Outline → List (List ℕ) → Option Start → List ℕ → Type 0
LeavesStart i told payloads old c = Leaves i told payloads payloads c
    ⊎ ((start : Start) × IsNextStart i old start
    × Leaves i told payloads (with_entry payloads (OfStart (start_of start))) c)
