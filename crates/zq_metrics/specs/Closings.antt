-- Why connections are closed.

use Rattle.std.specs.Prelude.{List, codes, if◌then◌else◌, ℕ, ◌==◌}
use Rattle.zq_metrics.specs.declared.closing.Closing.{Closing}
use Rattle.zq_metrics.specs.declared.closing.Closing.TheVariants.{Device, Idle, Output, Protocol, Slow}

abbrev pub place_of : Closing → ℕ
place_of Protocol = 0
place_of Device = 1
place_of Slow = 2
place_of Output = 3
place_of Idle = 4

-- the name of the reason at a place
unfoldable pub reason_at : ℕ → List ℕ
reason_at place =
    if place == 0 then codes "protocol"
    else if place == 1 then codes "device"
    else if place == 2 then codes "slow"
    else if place == 3 then codes "output"
    else codes "idle"
