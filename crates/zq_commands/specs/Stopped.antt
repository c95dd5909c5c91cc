-- Why a move was not made.

use Rattle.zq_commands.specs.declared.stopped.Stopped.{Stopped}
use Rattle.zq_commands.specs.declared.stopped.Stopped.TheVariants as cut
use Rattle.zq_semantics.specs.Run.{Memory, Number, Want}

abbrev pub want_of : Stopped → Want
want_of cut.Worn = Number
want_of cut.NoMemory = Memory
