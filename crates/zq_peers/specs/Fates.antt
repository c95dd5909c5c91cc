-- What becomes of a frame that is given to a mailbox.

use Rattle.std.specs.Prelude.{Bool, false, true}
use Rattle.zq_peers.specs.declared.tray.Fate.{Fate}
use Rattle.zq_peers.specs.declared.tray.Fate.TheVariants.{Lost, NoMemory, Waits}

-- whether there was memory for it
abbrev pub had_memory : Fate → Bool
had_memory Waits = true
had_memory Lost = true
had_memory NoMemory = false
