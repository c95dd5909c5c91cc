-- What a reply stops a drill for.

use Rattle.std.specs.Cmp.Lexicographic.{pointwise}
use Rattle.std.specs.Prelude.{Err, List, Ok, Result, codes, if◌then◌else◌, nat_eq, ℕ}
use Rattle.zq_drill.specs.declared.fault.DrillFault.{DrillFault}
use Rattle.zq_drill.specs.declared.fault.DrillFault.TheVariants.{Device, NoMemory}
use Rattle.zq_resp.specs.declared.reply.Reply.{Reply}
use Rattle.zq_resp.specs.declared.reply.Reply.TheVariants.{Error}

abbrev pub fault_of_text : List ℕ → Result (Unit {0}) DrillFault
fault_of_text text =
    if pointwise nat_eq text (codes "OOM after") then Err NoMemory else
    if pointwise nat_eq text (codes "ERR worn after") then Err Device else Ok tt

abbrev pub fault_of : Reply → Result (Unit {0}) DrillFault
fault_of (Error text after) = fault_of_text text.now
fault_of other = Ok tt
