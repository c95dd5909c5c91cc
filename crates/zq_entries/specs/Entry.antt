-- Entries of a log, apart from how they are spelled.

use Rattle.std.specs.Prelude.{All, List, length, ℕ, ◌<◌, ◌^◌, ◌≡◌, ◌≤◌}
use Rattle.zq_dots.specs.Placed.{IsRanged, Placed}
use Rattle.zq_dots.specs.Rule.{rule_of}
use Rattle.zq_entries.specs.Together.{AreTogether, batch_of}
use Rattle.zq_entries.specs.declared.entry.Entry as code
use Rattle.zq_entries.specs.declared.entry.Entry.TheVariants as variant
use Rattle.zq_entries.specs.declared.sealed.Sealed.{Sealed}
use Rattle.zq_entries.specs.declared.start.Start as start
use Rattle.zq_links.specs.Pieces.{IsPiece}
use Rattle.zq_links.specs.declared.piece.Piece.{Piece}
use Rattle.zq_model.specs.Rule.{Rule}
use Rattle.zq_model.specs.Sets.{IsCounters, IsHeaps, SITES}

-- the most batches of a round
abbrev pub MOST_BATCHES : ℕ
MOST_BATCHES = 64

-- the bytes that name a folder
abbrev pub FOLDER : ℕ
FOLDER = 16

-- whose log it is, and the number of this start
pub record Start : Type 0 where
  pub site : ℕ
  pub heaps : ℕ
  pub rule : Rule
  pub folder : List ℕ
  pub number : ℕ

-- operations by batches, each of one heap; a piece of a heap; or that all pieces of a heap came
pub data Entry : Type 0 where
  OfStart : (start : Start) → Entry
  OfRound : (batches : List (List Placed)) → Entry
  OfPiece : (piece : Piece) → Entry
  OfSealed : (whole : Sealed) → Entry
  OfRest : Entry

-- ---- numbers in range

pub record IsStart (s : Start) : Type 0 where
  pub site : s.site < SITES
  pub heaps : IsHeaps s.heaps
  pub folder : length s.folder ≡ FOLDER
  pub some : 1 ≤ s.number
  pub number : s.number < 2 ^ 64

-- they have a spelling together, of which eight bytes hold the length
pub record IsBatch (ops : List Placed) : Type 0 where
  pub ranged : All IsRanged ops
  pub together : AreTogether ops
  pub short : length (batch_of ops) < 2 ^ 64

pub record IsRound (batches : List (List Placed)) : Type 0 where
  pub some : 1 ≤ length batches
  pub few : length batches ≤ MOST_BATCHES
  pub each : All IsBatch batches

pub record IsSealed (w : Sealed) : Type 0 where
  pub heaps : IsHeaps w.heap.heaps
  pub heap : w.heap.heap < w.heap.heaps
  pub vector : IsCounters w.vector

-- its numbers are in range
abbrev pub IsEntry : Entry → Type 0
IsEntry (OfStart s) = IsStart s
IsEntry (OfRound batches) = IsRound batches
IsEntry (OfPiece p) = IsPiece p
IsEntry (OfSealed w) = IsSealed w
IsEntry OfRest = Unit {0}

-- ---- the code's

abbrev pub start_of : start.Start → Start
start_of s = record {
  site = s.site;
  heaps = s.heaps;
  rule = rule_of s.rule;
  folder = s.folder;
  number = s.number;
}

abbrev pub entry_of : code.Entry → Entry
entry_of (variant.Start s) = OfStart (start_of s)
entry_of (variant.Round batches) = OfRound batches.items
entry_of (variant.Piece p) = OfPiece p
entry_of (variant.Sealed w) = OfSealed w
entry_of variant.Rest = OfRest

-- what can be written
abbrev pub IsWritable : code.Entry → Type 0
IsWritable (variant.Start s) = IsHeaps s.heaps × (1 ≤ s.number)
IsWritable (variant.Round batches) = (1 ≤ length batches.items)
    × (length batches.items ≤ MOST_BATCHES)
IsWritable (variant.Piece p) = Unit {0}
IsWritable (variant.Sealed w) = IsSealed w
IsWritable variant.Rest = Unit {0}
