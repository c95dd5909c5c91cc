-- The one spelling of each entry.

use Rattle.std.specs.Int.{to_be_bytes, w64}
use Rattle.std.specs.Prelude.{List, [], flat_map, length, ℕ, ◌++◌, ◌∷◌}
use Rattle.zq_dots.specs.Placed.{Placed}
use Rattle.zq_entries.specs.Entry.{Entry, OfPiece, OfRest, OfRound, OfSealed, OfStart, Start}
use Rattle.zq_entries.specs.Kind.{kind_byte}
use Rattle.zq_entries.specs.Together.{batch_of}
use Rattle.zq_entries.specs.declared.kind.Kind.TheVariants as kind
use Rattle.zq_entries.specs.declared.sealed.Sealed.{Sealed}
use Rattle.zq_fields.specs.Spelling.{rule_byte, sparse}
use Rattle.zq_links.specs.Pieces.{piece_bytes}

-- the format of the log
abbrev pub FORMAT : ℕ
FORMAT = 1

-- the format, the site, the number of heaps, the rule, the folder's name, and the start's number
unfoldable pub start_bytes : Start → List ℕ
start_bytes s =
    FORMAT ∷ s.site ∷ s.heaps ∷ rule_byte s.rule ∷ (s.folder ++ to_be_bytes w64 s.number)

-- eight bytes of length, and that many bytes
unfoldable pub block : List ℕ → List ℕ
block bytes = to_be_bytes w64 (length bytes) ++ bytes

-- a batch, behind its length
abbrev pub part_bytes : List Placed → List ℕ
part_bytes ops = block (batch_of ops)

-- the number of batches, and each
unfoldable pub round_bytes : List (List Placed) → List ℕ
round_bytes batches = length batches ∷ flat_map part_bytes batches

-- the number of heaps, the heap and the vector
unfoldable pub sealed_bytes : Sealed → List ℕ
sealed_bytes w = w.heap.heaps ∷ w.heap.heap ∷ sparse w.vector

-- the kind, and what it is of; a piece is a frame, whose kind it is
abbrev pub entry_bytes : Entry → List ℕ
entry_bytes (OfStart s) = kind_byte kind.Start ∷ start_bytes s
entry_bytes (OfRound batches) = kind_byte kind.Round ∷ round_bytes batches
entry_bytes (OfPiece p) = piece_bytes p
entry_bytes (OfSealed w) = kind_byte kind.Sealed ∷ sealed_bytes w
entry_bytes OfRest = kind_byte kind.Rest ∷ []
