-- Whether another run used a site's number.

use Rattle.std.specs.Prelude.{Bool, List, Option, Some, Vec, false, nat_lt, slice_index, true, ℕ, ◌<◌, ◌≡◌, ◌≤◌, ◌⊎◌}
use Rattle.std.specs.declared.alloc.Global.{Global}
use Rattle.zq_links.specs.Batch.{IsOneOf}
use Rattle.zq_links.specs.Control.{control_of}
use Rattle.zq_links.specs.ControlSpelling.{control_spelling}
use Rattle.zq_links.specs.Frame.{frame_of}
use Rattle.zq_links.specs.Pieces.{piece_bytes}
use Rattle.zq_links.specs.declared.control.Control as control
use Rattle.zq_links.specs.declared.frame.Frame as code
use Rattle.zq_links.specs.declared.piece.Piece.{Piece}
use Rattle.zq_node.specs.declared.node.Node.{Node}
use Rattle.zq_replica.specs.Joined.{HasHeardControl, HasHeardFrame}
use Rattle.zq_replica.specs.Nodes.{WasShown}
use Rattle.zq_replica.specs.Sites.{fence_of}
use Rattle.zq_replica.specs.Told.{told_by, told_by_control, told_by_piece}
use Rattle.zq_replica.specs.declared.fence.Fenced.{Fenced}
use Rattle.zq_replica.specs.declared.gathering.Gathering.{Gathering}
use Rattle.zq_replica.specs.declared.joining.Joining.{Joining}
use Rattle.zq_replica.specs.declared.replica.Replica.{Replica}

-- what proves that another run used the site's number, and what was heard since the site began
abbrev pub standing_of : Replica → Option Fenced × Joining
standing_of replica = (replica.fenced, replica.joining)

-- both are as before
abbrev pub IsStanding : Replica → Replica → Type 0
IsStanding old new = standing_of new ≡ standing_of old

-- and so is what came of a heap in pieces
abbrev pub steady_of : Replica → Option Fenced × Joining × Option Gathering
steady_of replica = (replica.fenced, replica.joining, replica.gathering)

abbrev pub IsSteady : Replica → Replica → Type 0
IsSteady old new = steady_of new ≡ steady_of old

-- the site is fenced so, and all else is as it was
abbrev pub fenced_by : Fenced → Replica → Replica
fenced_by fenced replica = record replica { fenced = Some fenced }

-- The site showed a vector that has fewer of its operations of a heap than the peer knows, and is
-- fenced by that.
abbrev pub IsFencedIn : ℕ → ℕ → ℕ → Node → Node → Replica → Replica → Type 0
IsFencedIn peer heap known old new was now = (vector : List ℕ) × WasShown old new heap vector
    × (slice_index vector was.own < known)
    × (now ≡ fenced_by (record { heap = heap; peer = peer; known = known; own = slice_index vector was.own }) was)

-- The peer knows none of the site's operations of a heap, or the site showed a vector that has as
-- many.
abbrev pub IsFreeIn : ℕ → ℕ → ℕ → Node → Node → Type 0
IsFreeIn own heap known old new = (known ≡ 0)
    ⊎ ((vector : List ℕ) × WasShown old new heap vector × (known ≤ slice_index vector own))

-- whether a peer that knows so many of the site's operations of one heap fences the site, which
-- else is as it was
abbrev pub IsJudgedIn : ℕ → ℕ → ℕ → Node → Node → Replica → Replica → Bool → Type 0
IsJudgedIn peer heap known old new was now true = IsFencedIn peer heap known old new was now
IsJudgedIn peer heap known old new was now false =
    (now ≡ was) × IsFreeIn was.own heap known old new

-- the site is free of the peer in each of its heaps
abbrev pub IsFree : Replica → (ℕ → ℕ) → Node → Node → Type 0
IsFree was told old new =
    (heap : ℕ) → heap < was.heaps → IsFreeIn was.own heap (told heap) old new

-- whether a peer that knows so many of each heap fences the site, by one of them
abbrev pub IsJudged : ℕ → (ℕ → ℕ) → Node → Node → Replica → Replica → Bool → Type 0
IsJudged peer told old new was now true =
    (heap : ℕ) × IsFencedIn peer heap (told heap) old new was now
IsJudged peer told old new was now false = (now ≡ was) × IsFree was told old new

-- whether a site has more operations of a peer's number in a heap than a run of the peer began with
abbrev pub is_beyond : ℕ → List ℕ → ℕ → List ℕ → Bool
is_beyond peer begun heap vector = nat_lt (slice_index begun heap) (slice_index vector peer)

-- frames that go to peers
abbrev pub Sent : Type 0
Sent = List (ℕ × Vec ℕ Global)

-- What came of what a peer sent, which tells so much of each heap: the site is fenced by that, and
-- sent nothing then; or it was free of that, as it showed before it heard the rest, and has heard
-- this as well since it began.
abbrev pub IsWeighed : ℕ → (ℕ → ℕ) → (Joining → Joining → Type 0) → Node → Node → Replica →
    Replica → Sent → Sent → Type 0
IsWeighed peer told Hears old new was now sent after =
    ((heap : ℕ) × IsFencedIn peer heap (told heap) old new was now × (after ≡ sent))
    ⊎ ((mid : Node) × IsFree was told old mid × (fence_of now ≡ fence_of was)
    × Hears was.joining now.joining)

-- the same of a frame, and of a control frame
abbrev pub IsWeighedBy : ℕ → code.Frame → Node → Node → Replica → Replica → Sent → Sent → Type 0
IsWeighedBy peer frame old new was now sent after =
    IsWeighed peer (λ heap. told_by was.own was.heaps heap frame) (HasHeardFrame peer frame)
    old new was now sent after

abbrev pub IsWeighedByControl : ℕ → control.Control → Node → Node → Replica → Replica → Sent →
    Sent → Type 0
IsWeighedByControl peer said old new was now sent after =
    IsWeighed peer (λ heap. told_by_control was.own was.heaps heap said) (HasHeardControl peer said)
    old new was now sent after

-- the same of a piece, by which nothing is heard of what peers have
abbrev pub IsWeighedByPiece : ℕ → Piece → Node → Node → Replica → Replica → Sent → Sent → Type 0
IsWeighedByPiece peer p old new was now sent after =
    IsWeighed peer (λ heap. told_by_piece was.own was.heaps heap p) (λ before now. now ≡ before)
    old new was now sent after

-- the same of bytes that are one of the three
abbrev pub IsWeighedByBytes : ℕ → List ℕ → Node → Node → Replica → Replica → Sent → Sent → Type 0
IsWeighedByBytes peer bytes old new was now sent after =
    ((frame : code.Frame) × IsOneOf (frame_of frame) bytes
    × IsWeighedBy peer frame old new was now sent after)
    ⊎ ((said : control.Control) × (bytes ≡ control_spelling (control_of said))
    × IsWeighedByControl peer said old new was now sent after)
    ⊎ ((p : Piece) × (bytes ≡ piece_bytes p)
    × IsWeighedByPiece peer p old new was now sent after)

-- nothing is done
abbrev pub IsPassedOver : Node → Node → Replica → Replica → Sent → Sent → Type 0
IsPassedOver old new was now sent after = (new ≡ old) × (now ≡ was) × (after ≡ sent)
