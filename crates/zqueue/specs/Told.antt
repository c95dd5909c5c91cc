-- How a program ends that asked a site.

use Rattle.std.specs.Prelude.{None, Option, Some, if◌then◌else◌, ℕ, ◌==◌}

-- the status of one that was told this status of HTTP, or none
abbrev pub status_told : Option ℕ → ℕ
status_told (Some code) = if code == 200 then 0 else 1
status_told None = 2
