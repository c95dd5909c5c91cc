-- What is proved of a log that is taken.

use Rattle.std.specs.Prelude.{All, List, [], drop, map, slice_index, ℕ, ◌++◌, ◌+◌, ◌<◌, ◌∷◌, ◌≡◌}
use Rattle.zq_dots.specs.Placed.{Placed}
use Rattle.zq_entries.specs.Entry.{entry_of}
use Rattle.zq_entries.specs.Spelling.{entry_bytes}
use Rattle.zq_entries.specs.declared.entry.Entry.{Entry}
use Rattle.zq_entries.specs.declared.entry.Entry.TheVariants as variant
use Rattle.zq_links.specs.declared.piece.Piece.{Piece}
use Rattle.zq_model.specs.Operation.{Operation}
use Rattle.zq_model.specs.Sets.{IsClosed, IsIn, IsMade, IsWorld}
use Rattle.zq_recovery.specs.Behind.{AreBehind, Behind, IsBehind, Sets, nothing, with_each, with_entries, with_piece}
use Rattle.zq_recovery.specs.Opening.{AreEmpty}
use Rattle.zq_recovery.specs.Replayed.{Replays}
use Rattle.zq_recovery.specs.Step.{Comes, TakesEach}
use Rattle.zq_recovery.specs.declared.opening.Identity.{Identity}
use Rattle.zq_recovery.specs.declared.recovery.Recovery.{Recovery}
use Rattle.zq_shard.specs.Shard.{HoldsImage}
use Rattle.zq_stage.specs.Piece.{Staged}
use Rattle.zq_stage.specs.Staged.{AreAllBrought, IsPieceOf}
use Rattle.zq_wal.specs.Replay.{Replayed}

-- these operations are of the world
abbrev pub AreOfWorld : List Operation → List Placed → Type 0
AreOfWorld W [] = Unit {0}
AreOfWorld W (o ∷ ops) = IsIn o.operation W × AreOfWorld W ops

abbrev pub EachOfWorld : List Operation → List (List Placed) → Type 0
EachOfWorld W [] = Unit {0}
EachOfWorld W (ops ∷ batches) = AreOfWorld W ops × EachOfWorld W batches

-- where nothing was read the stages have nothing
abbrev pub Begins : Type 0
Begins = (i : Identity) (W : List Operation) (stages : List Staged) → AreEmpty i stages →
    AreBehind i.heaps W (λ h. nothing) stages

-- after a round they have its operations more
abbrev pub KeepsRounds : Type 0
KeepsRounds = (K : ℕ) (W : List Operation) (sets : Sets) (batches : List (List Placed))
    (old new : List Staged) → IsWorld K W → EachOfWorld W batches → AreBehind K W sets old →
    TakesEach batches old new → AreBehind K W (with_each batches sets) new

-- a first piece of the image of a set begins that, and a further one brings rows
abbrev pub KeepsPieces : Type 0
KeepsPieces = (K : ℕ) (W T : List Operation) (sets : Sets) (p : Piece) (old new : List Staged) →
    IsWorld K W → ((o : Operation) → IsIn o T → IsIn o W) → IsPieceOf T p.part →
    AreBehind K W sets old → Comes p old new → AreBehind K W (with_piece T p sets) new

-- no operation of its heap that was read before is lost by a piece
abbrev pub LosesNone : Type 0
LosesNone = (K : ℕ) (W T : List Operation) (sets : Sets) (p : Piece) (old new : List Staged) →
    IsWorld K W → ((o : Operation) → IsIn o T → IsIn o W) → IsPieceOf T p.part →
    AreBehind K W sets old → Comes p old new → (o : Operation) →
    IsIn o (sets p.part.heap).set → o.heap ≡ p.part.heap →
    IsIn o (with_piece T p sets p.part.heap).set

-- ---- a whole log

-- the operations of a round are of the world, and those of the set that a piece is of
abbrev pub IsOfWorld : List Operation → (Piece → List Operation) → Entry → Type 0
IsOfWorld W of (variant.Start s) = Unit {0}
IsOfWorld W of (variant.Round batches) = EachOfWorld W batches.items
IsOfWorld W of (variant.Piece p) = ((o : Operation) → IsIn o (of p) → IsIn o W)
    × IsPieceOf (of p) p.part
IsOfWorld W of (variant.Sealed w) = Unit {0}
IsOfWorld W of variant.Rest = Unit {0}

-- The payloads are entries behind their floors. Where these are of one world, the stages have their
-- operations after them.
pub record AreRead (first : Recovery) (payloads : List (List ℕ)) (last : Recovery) : Type 0 where
  pub entries : List Entry
  pub spelled : map (drop 8) payloads ≡ map (λ e. entry_bytes (entry_of e)) entries
  pub identity : last.identity ≡ first.identity
  pub behind : (K : ℕ) (W : List Operation) (of : Piece → List Operation) (sets : Sets) →
      IsWorld K W → All (IsOfWorld W of) entries → AreBehind K W sets first.stages.items →
      AreBehind K W (with_entries of entries sets) last.stages.items

-- whatever records are taken
abbrev pub Reads : Type 0
Reads = (first last : Recovery) (payloads : List (List ℕ)) →
    Replayed Replays first payloads last → AreRead first payloads last

-- ---- the end

-- a stage to which all was brought is the image of its set, and the next counter of each site is
-- above all that the set has of it
pub record IsRecovered (b : Behind) (t : Staged) : Type 0 where
  pub holds : HoldsImage t.held b.set
  pub fresh : (o : Operation) → IsIn o b.set → o.heap ≡ t.held.heap →
      o.n < slice_index t.held.image.vector o.site + 1

abbrev pub Ends : Type 0
Ends = (K : ℕ) (W : List Operation) (h : ℕ) (b : Behind) (t : Staged) → IsBehind K W h b t →
    AreAllBrought b.begun b.rows b.set t.held.heap → IsRecovered b t

-- where a heap had no pieces nothing has to be brought
abbrev pub NeedsNone : Type 0
NeedsNone = (set : List Operation) (heap : ℕ) →
    AreAllBrought nothing.begun nothing.rows set heap

-- ---- how a site goes on

abbrev pub IsWithin : List Operation → List Operation → Type 0
IsWithin S T = (o : Operation) → IsIn o S → IsIn o T

-- What stands after a crash of the site: V is all that is left anywhere, at the other sites, on the
-- way to them and here, and T is what the site has again. What it made and anybody has it has
-- again, since it was in the log before it was sent.
pub record GoesOn (K site : ℕ) (V T : List Operation) : Type 0 where
  pub world : IsWorld K V
  pub within : IsWithin T V
  pub closed : IsClosed T
  pub own : (o : Operation) → IsIn o V → o.site ≡ site → IsIn o T

-- what it makes next has a dot that no operation has
abbrev pub Makes : Type 0
Makes = (K site : ℕ) (V T : List Operation) (o : Operation) → GoesOn K site V T → IsMade K T o →
    o.site ≡ site → GoesOn K site (o ∷ V) (o ∷ T)

-- what it merges changes nothing of that, nor does what another site makes
abbrev pub Merges : Type 0
Merges = (K site : ℕ) (V T U : List Operation) → GoesOn K site V T → IsWithin U V → IsClosed U →
    GoesOn K site V (T ++ U)

abbrev pub Others : Type 0
Others = (K site : ℕ) (V T : List Operation) (o : Operation) → GoesOn K site V T →
    IsWorld K (o ∷ V) → (o.site ≡ site → ⊥) → GoesOn K site (o ∷ V) T
