-- What keeps a link up over which nothing else goes.

use Rattle.std.specs.Prelude.{List, [], ℕ}
use Rattle.zq_links.specs.Frame.{OfOps}
use Rattle.zq_links.specs.Spelling.{frame_spelling, newest}

-- a frame of no operations
abbrev pub heartbeat : List ℕ
heartbeat = frame_spelling (newest (OfOps []))
