-- Frames that wait, as their bytes.

use Rattle.std.specs.Prelude.{Bool, List, Vec, [], false, length, map, sum_by, true, ℕ, ◌∷◌}
use Rattle.std.specs.declared.alloc.Global.{Global}

abbrev pub frames_of : List (Vec ℕ Global) → List (List ℕ)
frames_of frames = map (λ frame. frame.items) frames

-- how many bytes they have together
abbrev pub bytes_of : List (List ℕ) → ℕ
bytes_of frames = sum_by length frames

-- whether none waits
abbrev pub is_empty : List (List ℕ) → Bool
is_empty [] = true
is_empty (frame ∷ frames) = false
