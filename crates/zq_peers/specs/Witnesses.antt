-- What a witness is told.

use Rattle.std.specs.Prelude.{Bool, Err, Ok, Result, ℕ, ◌≡◌}
use Rattle.zq_peers.specs.declared.unheard.Unheard.{Unheard}

-- how a witness is told: the state before, the site, why its frame was not heard, and the state
-- after
abbrev pub Telling : Type 0 → Type 1
Telling T = T → ℕ → Unheard → T → Type 0

-- it was told of a frame of the site that was not heard, and of no other
abbrev pub IsReported : {T : Type 0} → Telling T → T → ℕ → Result Bool Unheard → T → Type 0
IsReported tells old from (Ok whole) new = new ≡ old
IsReported tells old from (Err why) new = tells old from why new
