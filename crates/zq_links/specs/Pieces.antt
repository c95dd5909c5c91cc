-- Pieces of a heap, and the one spelling of each.

use Rattle.std.specs.Prelude.{Bool, List, [], false, ℕ, ◌++◌, ◌==◌, ◌∷◌}
use Rattle.zq_links.specs.Steps.{IsStep, step_bytes}
use Rattle.zq_links.specs.declared.piece.Piece.{Piece}
use Rattle.zq_merge.specs.State.{IsState, state_spelling}
use Rattle.zq_merge.specs.declared.version.Version.TheVariants.{Three}

-- its numbers are in range
pub record IsPiece (p : Piece) : Type 0 where
  pub step : IsStep p.life p.number p.next
  pub part : IsState p.part

-- the kind of the frame
abbrev pub KIND : ℕ
KIND = 10

-- the kind, where the stream stands, and the state in its newest version
unfoldable pub piece_bytes : Piece → List ℕ
piece_bytes p = KIND ∷ (step_bytes p.life p.number p.next ++ state_spelling Three p.part)

-- the first byte names the kind
abbrev pub is_piece : List ℕ → Bool
is_piece [] = false
is_piece (b ∷ bytes) = b == KIND
