-- The frame of a batch.

use Rattle.std.specs.Prelude.{List, None, Option, Some, Vec, [], ℕ, ◌≡◌, ◌≢◌}
use Rattle.std.specs.declared.alloc.Global.{Global}
use Rattle.zq_dots.specs.Placed.{Placed}
use Rattle.zq_links.specs.Frame.{OfOps}
use Rattle.zq_links.specs.Spelling.{frame_spelling, newest}

-- there is a frame where there are operations, and it is theirs
abbrev pub IsFrameOf : List Placed → Option (Vec ℕ Global) → Type 0
IsFrameOf ops None = ops ≡ []
IsFrameOf ops (Some frame) = (ops ≢ []) × (frame.items ≡ frame_spelling (newest (OfOps ops)))
