-- A stage, and which piece is its next.

use Rattle.std.specs.Coded.{Coded, code_by, coded_bool, coded×, coded_ℕ}
use Rattle.std.specs.Prelude.{Bool, refl, ℕ, ◌+◌, ◌<◌, ◌≡◌, ◌||◌}
use Rattle.zq_model.specs.Image.{Image}
use Rattle.zq_shard.specs.Shard.{HeapImage, IsSameHeap, heap_image_code}
use Rattle.zq_stage.specs.Rows.{with_image}

-- what it has, the life of the heap that comes, the number of the piece that it waits for, and
-- whether the last one came
pub record Staged : Type 0 where
  pub held : HeapImage
  pub life : ℕ
  pub next : ℕ
  pub whole : Bool

abbrev pub staged_code : Coded Staged
staged_code =
    code_by (HeapImage × (ℕ × (ℕ × Bool)))
    (coded× heap_image_code (coded× coded_ℕ (coded× coded_ℕ coded_bool)))
    (λ t. (t.held, (t.life, (t.next, t.whole))))
    (λ p. record { held = p.0; life = p.1.0; next = p.1.1.0; whole = p.1.1.1 }) (λ _. refl)

-- the greatest number of a piece, which none has
unfoldable pub MOST_PIECES : ℕ
MOST_PIECES = 4294967295

-- the piece is of the stage's heap and rule, of the life and the vector that it has, and the next
pub record IsNextPiece (t : Staged) (life number : ℕ) (piece : HeapImage) : Type 0 where
  pub heap : IsSameHeap t.held piece
  pub rule : t.held.rule ≡ piece.rule
  pub same_life : t.life ≡ life
  pub is_next : t.next ≡ number
  pub few : number < MOST_PIECES
  pub vector : t.held.image.vector ≡ piece.image.vector

-- the stage with another image
abbrev pub holding : Image → Staged → Staged
holding image t = record t { held = with_image t.held image }

-- the stage after a piece that leaves this image
abbrev pub after_piece : Image → Bool → Staged → Staged
after_piece image last t =
    record t { held = with_image t.held image; next = t.next + 1; whole = t.whole || last }
