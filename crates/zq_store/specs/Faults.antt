-- After which faults what writes a site's log goes on.

use Rattle.std.specs.Prelude.{Err, Ok, Result}
use Rattle.zq_keeper.specs.declared.fault.KeeperFault.{KeeperFault}
use Rattle.zq_keeper.specs.declared.fault.KeeperFault.TheVariants.{Failed, Stopped}

-- nothing more can be written
abbrev pub HasStopped : KeeperFault → Type 0
HasStopped (Failed error) = Unit {0}
HasStopped Stopped = Unit {0}
HasStopped other = ⊥

-- after such a fault alone it is told on
abbrev pub goes_on_after : KeeperFault → Result (Unit {0}) KeeperFault
goes_on_after (Failed error) = Err (Failed error)
goes_on_after Stopped = Err Stopped
goes_on_after other = Ok tt
