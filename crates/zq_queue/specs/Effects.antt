-- What an effect makes of a member's entry.

use Rattle.std.specs.Prelude.{Bool, List, true, ℕ, ◌*◌, ◌-◌, ◌≡◌}
use Rattle.zq_dots.specs.Act.{act_of}
use Rattle.zq_entry.specs.Within.{AreSumsWithin}
use Rattle.zq_model.specs.Image.{Entry, entry_after}
use Rattle.zq_model.specs.Operation.{MOST, has, is_bump}
use Rattle.zq_model.specs.Rows.{OfSite}
use Rattle.zq_queue.specs.Entries.{Entries, entry_in, set_entry}
use Rattle.zq_queue.specs.declared.effect.Effect.{Effect}

-- the entry after the effect
abbrev pub affected : Effect → Entry → Entry
affected e entry = entry_after (act_of e.act) e.dot.site e.dot.n e.seen.now entry

-- the entries after the effect on a member
abbrev pub entries_after : Effect → List ℕ → Entries → Entries
entries_after e member entries = set_entry entries member (affected e (entry_in entries member))

-- where the effect is a Bump's, the sums of its site are no more than its earlier Bumps can come to
abbrev pub HasRoom : Effect → Entry → Type 0
HasRoom e entry = is_bump (act_of e.act) ≡ true →
    AreSumsWithin e.dot.site (MOST * (e.dot.n - 1)) entry

-- whether the vector has seen the addition
abbrev pub is_seen : List ℕ → OfSite → Bool
is_seen seen p = has seen p.0 p.1.n
