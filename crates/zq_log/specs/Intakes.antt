-- What comes of a message.

use Rattle.log.specs.declared.level.Level.{Level}
use Rattle.std.specs.Prelude.{List, None, Option, Some, ℕ, ◌≡◌, ◌⊎◌}
use Rattle.zq_log.specs.Backlogs.{IsLost, Waits}
use Rattle.zq_log.specs.Kinds.{IsAdmitted, kind}
use Rattle.zq_log.specs.Lines.{IsLine}
use Rattle.zq_log.specs.declared.backlog.Backlog.{Backlog}
use Rattle.zq_log.specs.declared.intake.Intake.{Intake}
use Rattle.zq_log.specs.declared.intake.Moment.{Moment}

-- its line waits or is dropped, where so many were held back before it; or it is held back
abbrev pub Follows : Moment → Level → List ℕ → List ℕ → Option ℕ → Backlog → Backlog → Type 0
Follows moment level message pairs None old new = new ≡ old
Follows moment level message pairs (Some more) old new =
    ((bytes : List ℕ) × IsLine moment.milli level message pairs more bytes × Waits bytes old new)
    ⊎ IsLost old new

-- the limit of its kind answers, and so it goes on
abbrev pub IsTakenIn : Moment → Level → List ℕ → List ℕ → Intake → Intake → Type 0
IsTakenIn moment level message pairs old new = (answered : Option ℕ)
    × IsAdmitted (kind message) moment.steady old.kinds.known.items answered new.kinds.known.items
    × Follows moment level message pairs answered old.backlog new.backlog
