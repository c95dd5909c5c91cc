-- A heap that comes in pieces, and takes the place of a site's own.

use Rattle.std.specs.List.{All}
use Rattle.std.specs.Prelude.{Bool, List, None, Option, Some, [], false, if◌then◌else◌, length, nat_lt, suc, true, zero, ℕ, ◌&&◌, ◌-◌, ◌<◌, ◌==◌, ◌∷◌, ◌≡◌, ◌≢◌, ◌⊎◌}
use Rattle.zq_dots.specs.Placed.{Placed}
use Rattle.zq_journal.specs.declared.since.Since.{Since}
use Rattle.zq_journal.specs.declared.since.Since.TheVariants.{Ops, TooOld}
use Rattle.zq_links.specs.declared.control.Resume.{Resume}
use Rattle.zq_links.specs.declared.frame.Frame as code
use Rattle.zq_links.specs.declared.frame.Frame.TheVariants as heard
use Rattle.zq_links.specs.declared.piece.Piece.{Piece}
use Rattle.zq_model.specs.Image.{image_taken}
use Rattle.zq_model.specs.Sets as sets
use Rattle.zq_model.specs.Sets.{IsIn, taken_of}
use Rattle.zq_node.specs.Calls.{Asked, IsCalled, MadeNoStep, TookOver}
use Rattle.zq_node.specs.Node.{IsSameHome, parked_of, pass_of, site_of}
use Rattle.zq_node.specs.Work.{HasWorked, WasStopped}
use Rattle.zq_node.specs.declared.node.Node.{Node}
use Rattle.zq_replica.specs.Nodes.{IsGiven, IsOpsOf, Shows}
use Rattle.zq_replica.specs.declared.catching.Catching.{Catching}
use Rattle.zq_replica.specs.declared.exchanging.Exchange.{Exchange}
use Rattle.zq_replica.specs.declared.exchanging.Exchange.TheVariants.{Done, Lacks, Old}
use Rattle.zq_replica.specs.declared.gathering.Gathering.{Gathering}
use Rattle.zq_replica.specs.declared.replica.Replica.{Replica}
use Rattle.zq_shard.specs.Shard.{HeapImage, IsOfHeap}
use Rattle.zq_stage.specs.Piece.{IsNextPiece, holding}
use Rattle.zq_transfer.specs.Transfer.{Received, after_part, begun_by, resume_of}

-- what came of a heap, if anything did
abbrev pub gathered_of : Replica → Option Gathering
gathered_of replica = replica.gathering

-- whether this heap is fetched from this peer
abbrev pub is_fetch_of : ℕ → ℕ → Option Catching → Bool
is_fetch_of peer heap None = false
is_fetch_of peer heap (Some c) = (c.from == peer) && (c.heap == heap)

abbrev pub is_awaited : ℕ → ℕ → Replica → Bool
is_awaited peer heap replica = is_fetch_of peer heap replica.catching

-- whether what came is of this heap, and came from this peer
abbrev pub is_part_of : ℕ → ℕ → Option Gathering → Bool
is_part_of peer heap None = false
is_part_of peer heap (Some g) = (g.from == peer) && (g.receiving.staged.held.heap == heap)

-- whether this heap is awaited from this peer, and some of it came
abbrev pub is_gathered : ℕ → ℕ → Replica → Bool
is_gathered peer heap replica =
    is_part_of peer heap replica.gathering && is_awaited peer heap replica

-- whether all of a heap came
abbrev pub is_whole : Option Gathering → Bool
is_whole None = false
is_whole (Some g) = g.receiving.staged.whole

-- where the stream of this heap of this peer broke off, if a part of it is there
abbrev pub resume_from : ℕ → ℕ → Option Gathering → Option Resume
resume_from peer heap None = None
resume_from peer heap (Some g) =
    if is_part_of peer heap (Some g) then Some (resume_of g.receiving) else None

-- after a beat in which nothing is fetched: it is kept for one beat less, and in the end dropped
abbrev pub aged : Option Gathering → Option Gathering
aged None = None
aged (Some g) = if nat_lt 0 g.left then Some (record g { left = g.left - 1 }) else None

-- ---- what comes

-- the piece begins a heap of the peer
abbrev pub IsBegun : ℕ → Piece → Option Gathering → Type 0
IsBegun peer p after = (g : Gathering) × (after ≡ Some g) × (g.from ≡ peer) × (p.number ≡ 0)
    × (g.receiving ≡ begun_by p)

-- The piece begins a heap, or is the next one of what came from the peer before. Then this is there.
abbrev pub IsNextOf : ℕ → Option Gathering → Piece → Received → Type 0
IsNextOf peer None p now = (p.number ≡ 0) × (now ≡ begun_by p)
IsNextOf peer (Some g) p now = ((p.number ≡ 0) × (now ≡ begun_by p))
    ⊎ ((g.from ≡ peer) × IsNextPiece g.receiving.staged p.life p.number p.part
    × (now ≡ after_part p g.receiving))

-- the heap of the piece is awaited from the peer, and the piece was taken so
abbrev pub IsAdded : ℕ → Replica → Piece → Option Gathering → Type 0
IsAdded peer was p after = (g : Gathering) × (is_awaited peer p.part.heap was ≡ true)
    × (after ≡ Some g) × (g.from ≡ peer) × IsNextOf peer was.gathering p g.receiving

-- all of this heap came
abbrev pub IsWholeIn : Option Gathering → HeapImage → Type 0
IsWholeIn None heap = ⊥
IsWholeIn (Some g) heap = (g.receiving.staged.whole ≡ true) × (heap ≡ g.receiving.staged.held)

-- the piece is the last one of a heap that is awaited from the peer: with it this heap is whole
abbrev pub IsWhole : ℕ → Replica → Piece → HeapImage → Type 0
IsWhole peer was p heap = (now : Received) × (is_awaited peer p.part.heap was ≡ true)
    × IsNextOf peer was.gathering p now × (now.staged.whole ≡ true)
    × (heap ≡ now.staged.held)

-- What came is as it was where the piece is passed over; or has the piece more, and is not whole; or
-- is there no more, as it was whole and was taken, or as it was given up.
abbrev pub IsGatheringPiece : ℕ → Replica → Piece → Option Gathering → Type 0
IsGatheringPiece peer was p after = (after ≡ was.gathering)
    ⊎ (IsAdded peer was p after × (is_whole after ≡ false))
    ⊎ ((heap : HeapImage) × IsWhole peer was p heap × (after ≡ None))
    ⊎ ((is_gathered peer p.part.heap was ≡ true) × (after ≡ None))

-- ---- what comes between pieces

-- the operation is of the heap that comes, and has seen nothing that did not come
abbrev pub IsNextOp : Placed → Received → Type 0
IsNextOp o r = IsOfHeap r.staged.held o
    × (taken_of r.staged.held.image.vector o.operation ≢ sets.Early)

-- what is there with the operation
abbrev pub fed_by : Placed → Received → Received
fed_by o r =
    record r { staged = holding (image_taken o.operation r.staged.held.image) r.staged }

-- these operations were taken, all of them and in their order, of which each was the next
abbrev pub AreFed : List Placed → Received → Received → Type 0
AreFed [] before now = now ≡ before
AreFed (o ∷ ops) before now = IsNextOp o before × AreFed ops (fed_by o before) now

-- what came took these operations, if anything came
abbrev pub IsFedIn : List Placed → Option Gathering → Option Gathering → Type 0
IsFedIn ops None after = after ≡ None
IsFedIn ops (Some g) after = (h : Gathering) × (after ≡ Some h) × (h.from ≡ g.from)
    × AreFed ops g.receiving h.receiving

-- there are operations, and all of them are of this heap
abbrev pub AreOfHeap : ℕ → List Placed → Type 0
AreOfHeap heap ops = (0 < length ops) × All (λ o. o.operation.heap ≡ heap) ops

-- What came is as it was. Or the frame is operations of the peer from which the heap comes, all of
-- that heap: it took them, or was given up.
abbrev pub IsGatheringBy : ℕ → Replica → code.Frame → Option Gathering → Type 0
IsGatheringBy peer was frame after = (after ≡ was.gathering)
    ⊎ ((heap : ℕ) × (ops : List Placed) × IsOpsOf frame ops × AreOfHeap heap ops
    × (is_gathered peer heap was ≡ true)
    × (IsFedIn ops was.gathering after ⊎ (after ≡ None)))

-- ---- what the site makes meanwhile

-- the heap after these operations, of which the last one comes first
abbrev pub grown : List Placed → HeapImage → HeapImage
grown [] s = s
grown (o ∷ before) s =
    record (grown before s) { image = image_taken o.operation (grown before s).image }

-- the operation is among those that an answer has
abbrev pub IsInAnswer : Since → Placed → Type 0
IsInAnswer TooOld o = ⊥
IsInAnswer (Ops ops) o = IsIn o ops.items

-- the heap took operations of an answer, and nothing else
abbrev pub HasTakenOf : Since → HeapImage → HeapImage → Type 0
HasTakenOf answer heap now = (ops : List Placed)
    × ((o : Placed) → IsIn o ops → IsInAnswer answer o) × (now ≡ grown ops heap)

-- the site was asked what a heap lacks, the heap took operations of the answer, and then the site
-- was asked alone what it has
pub record HasGrown (heap now : HeapImage) (old new : Node) : Type 0 where
  pub number : ℕ
  pub vector : List ℕ
  pub answer : Since
  pub asked : Node
  pub called : IsCalled (site_of old) (pass_of old) (pass_of asked) (Asked number vector answer)
  pub shows : Shows old new
  pub took : HasTakenOf answer heap now

-- ---- what takes the site's place

-- the site made no step
pub record IsIdle (old new : Node) : Type 0 where
  pub home : IsSameHome old new
  pub parked : parked_of new ≡ parked_of old
  pub no_step : MadeNoStep (pass_of old) (pass_of new)

-- the heap was exchanged for the site's own
pub record IsExchanged (heap : HeapImage) (old new : Node) : Type 0 where
  pub home : IsSameHome old new
  pub parked : parked_of new ≡ parked_of old
  pub over : IsCalled (site_of old) (pass_of old) (pass_of new) (TookOver heap)

-- so often the heap took what the site gave, and the exchange was refused
abbrev pub AreTries : ℕ → HeapImage → HeapImage → Node → Node → Type 0
AreTries zero heap now old new = (now ≡ heap) × (new ≡ old)
AreTries (suc n) heap now old new = (earlier : HeapImage) × (mid grew : Node)
    × AreTries n heap earlier old mid × HasGrown earlier now mid grew × IsIdle grew new

-- the heap took what the site gave, and was exchanged for the site's own
abbrev pub IsTaken : HeapImage → Node → Node → Type 0
IsTaken heap old new = (now : HeapImage) × (grew : Node) × HasGrown heap now old grew
    × IsExchanged now grew new

-- the site was asked what it has, and made no step after that
abbrev pub IsStopped : Node → Node → Type 0
IsStopped old new = (mid : Node) × Shows old mid × IsIdle mid new

-- what was parked was tried, and then the site was asked alone what it has
pub record IsSettled (old new : Node) : Type 0 where
  pub after : Node
  pub home : IsSameHome old after
  pub tried : HasWorked [] old after ⊎ WasStopped [] old after
  pub then_asked : Shows after new

-- The heap took what the site made meanwhile, and took the place of the site's own, after which what
-- was parked was tried; or it was merged as one that came at once; or the site made no step.
pub record HasReplaced (heap : HeapImage) (old new : Node) : Type 0 where
  pub before : Node
  pub asked : Shows old before
  pub times : ℕ
  pub now : HeapImage
  pub mid : Node
  pub tried : AreTries times heap now before mid
  pub became : ((after : Node) × IsTaken now mid after × IsSettled after new)
      ⊎ IsGiven (heard.State now) mid new ⊎ IsStopped mid new

-- what came of an exchange
abbrev pub IsCame : Exchange → HeapImage → HeapImage → Node → Node → Type 0
IsCame Done heap now old new = IsExchanged heap old new
IsCame Lacks heap now old new = (now ≡ heap) × IsIdle old new
IsCame Old heap now old new = (now ≡ heap) × IsIdle old new

-- what came of trying once
abbrev pub IsTried : Exchange → HeapImage → HeapImage → Node → Node → Type 0
IsTried Done heap now old new = IsTaken heap old new
IsTried Lacks heap now old new = (grew : Node) × HasGrown heap now old grew × IsIdle grew new
IsTried Old heap now old new = (grew : Node) × HasGrown heap now old grew × IsIdle grew new

-- what came of trying several times
abbrev pub AreTried : Bool → HeapImage → HeapImage → Node → Node → Type 0
AreTried true heap now old new = (times : ℕ) × (earlier : HeapImage) × (mid : Node)
    × AreTries times heap earlier old mid × IsTaken earlier mid new
AreTried false heap now old new = (times : ℕ) × AreTries times heap now old new

abbrev pub WereStopped : HeapImage → Node → Node → Type 0
WereStopped heap old new = (times : ℕ) × (now : HeapImage) × (mid : Node)
    × AreTries times heap now old mid × IsStopped mid new

-- what came took the site's place where it was whole, and is there no more; else the site was not
-- asked, and it is left as it was
abbrev pub IsFinished : Option Gathering → Option Gathering → Node → Node → Type 0
IsFinished came left old new = ((is_whole came ≡ false) × (left ≡ came) × (new ≡ old))
    ⊎ ((heap : HeapImage) × IsWholeIn came heap × (left ≡ None) × HasReplaced heap old new)
