-- What bytes bring a site.

use Rattle.std.specs.Prelude.{List, Option, ℕ, ◌≡◌, ◌⊎◌}
use Rattle.zq_links.specs.Batch.{IsOneOf}
use Rattle.zq_links.specs.Frame.{frame_of}
use Rattle.zq_links.specs.Pieces.{piece_bytes}
use Rattle.zq_links.specs.declared.frame.Frame as code
use Rattle.zq_links.specs.declared.piece.Piece.{Piece}
use Rattle.zq_node.specs.declared.node.Node.{Node}
use Rattle.zq_replica.specs.Gathered.{HasReplaced, IsGatheringBy, IsGatheringPiece, IsWhole}
use Rattle.zq_replica.specs.Nodes.{Heard, Shows}
use Rattle.zq_replica.specs.declared.gathering.Gathering.{Gathering}
use Rattle.zq_replica.specs.declared.replica.Replica.{Replica}
use Rattle.zq_shard.specs.Shard.{HeapImage}

-- the site took nothing but what this piece of the peer completes
abbrev pub IsCompleted : ℕ → Replica → Piece → Node → Node → Type 0
IsCompleted peer was p old new = Shows old new
    ⊎ ((heap : HeapImage) × IsWhole peer was p heap × HasReplaced heap old new)

-- the site took nothing but what the bytes of the peer bring, as a frame that they spell, or as
-- operations by differences; or a heap that they complete
abbrev pub IsBrought : ℕ → Replica → List ℕ → Node → Node → Type 0
IsBrought peer was bytes old new = Shows old new
    ⊎ ((frame : code.Frame) × IsOneOf (frame_of frame) bytes × Heard frame old new)
    ⊎ ((p : Piece) × (bytes ≡ piece_bytes p) × ((heap : HeapImage) × IsWhole peer was p heap
    × HasReplaced heap old new))

-- what comes of a heap in pieces is as it was, or the bytes of the peer are operations or a piece of
-- it
abbrev pub IsGathering : ℕ → Replica → List ℕ → Option Gathering → Type 0
IsGathering peer was bytes after = (after ≡ was.gathering)
    ⊎ ((frame : code.Frame) × IsOneOf (frame_of frame) bytes
    × IsGatheringBy peer was frame after)
    ⊎ ((p : Piece) × (bytes ≡ piece_bytes p) × IsGatheringPiece peer was p after)
