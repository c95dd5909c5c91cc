-- How the program ends that looked at a log.

use Rattle.std.specs.Prelude.{ℕ}
use Rattle.zq_inspect.specs.declared.state.State.{State}
use Rattle.zq_inspect.specs.declared.state.State.TheVariants.{Damaged, Empty, Refused, Torn, Whole}

-- 0 where a site starts on it
abbrev pub status_inspected : State → ℕ
status_inspected Whole = 0
status_inspected Torn = 0
status_inspected Empty = 0
status_inspected Damaged = 1
status_inspected (Refused refusal) = 1

-- 0 where it is whole
abbrev pub status_checked : State → ℕ
status_checked Whole = 0
status_checked Torn = 1
status_checked Empty = 1
status_checked Damaged = 1
status_checked (Refused refusal) = 1
