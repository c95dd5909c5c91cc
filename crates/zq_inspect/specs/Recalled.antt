-- What the records of a log make of the heaps of the site that its first one names.

use Rattle.std.specs.Prelude.{List, None, Option, Some, [], ℕ, ◌≡◌}
use Rattle.zq_inspect.specs.declared.recall.Recall.{Recall}
use Rattle.zq_keeper.specs.Read.{HasRead, IsBlank, Reads}
use Rattle.zq_keeper.specs.declared.reader.Reader.{Reader}

-- the first record is taken by a reader of which nothing was read, and each further one by that
-- which took those before
abbrev pub GoesOn : Option Reader → List ℕ → Option Reader → Type 0
GoesOn old payload None = ⊥
GoesOn None payload (Some new) = (first : Reader) × IsBlank first × Reads first payload new
GoesOn (Some old) payload (Some new) = Reads old payload new

abbrev pub Recalls : Recall → List ℕ → Recall → Type 0
Recalls before payload after = GoesOn before.reader payload after.reader

-- these records are read, and by none where there are none
abbrev pub AreRead : List (List ℕ) → Option Reader → Type 0
AreRead payloads None = payloads ≡ []
AreRead payloads (Some reader) = HasRead payloads reader
