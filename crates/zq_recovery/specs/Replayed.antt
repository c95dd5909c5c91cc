-- What the records of a log make of what was recovered.

use Rattle.std.specs.Prelude.{List, drop, ℕ, ◌≡◌}
use Rattle.zq_entries.specs.Entry.{entry_of}
use Rattle.zq_entries.specs.Spelling.{entry_bytes}
use Rattle.zq_entries.specs.declared.entry.Entry.{Entry}
use Rattle.zq_recovery.specs.Effect.{Does, Opens}
use Rattle.zq_recovery.specs.declared.recovery.Recovery.{Recovery}

-- behind its floor the payload is the spelling of an entry, which does this
pub record Replays (old : Recovery) (payload : List ℕ) (new : Recovery) : Type 0 where
  pub entry : Entry
  pub spelled : drop 8 payload ≡ entry_bytes (entry_of entry)
  pub opens : Opens old.identity entry old.start new.start
  pub does : Does entry old.stages.items new.stages.items
  pub identity : new.identity ≡ old.identity
