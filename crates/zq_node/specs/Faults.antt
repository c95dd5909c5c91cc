-- The faults of the site's calls, as a node's.

use Rattle.zq_journal.specs.declared.faults.MergeFault.{MergeFault}
use Rattle.zq_journal.specs.declared.faults.MergeFault.TheVariants as merge
use Rattle.zq_journal.specs.declared.faults.TakeFault.{TakeFault}
use Rattle.zq_journal.specs.declared.faults.TakeFault.TheVariants as take
use Rattle.zq_node.specs.declared.faults.NodeFault.{NodeFault}
use Rattle.zq_node.specs.declared.faults.NodeFault.TheVariants.{NoMemory, Worn, WrongHeap, WrongRule}
use Rattle.zq_spread.specs.declared.faults.ReadFault.{ReadFault}
use Rattle.zq_spread.specs.declared.faults.ReadFault.TheVariants as read

abbrev pub unread : ReadFault → NodeFault
unread read.Worn = Worn
unread read.NoMemory = NoMemory

abbrev pub untaken : TakeFault → NodeFault
untaken take.WrongHeap = WrongHeap
untaken take.Worn = Worn
untaken take.NoMemory = NoMemory

abbrev pub unmerged : MergeFault → NodeFault
unmerged merge.WrongHeap = WrongHeap
unmerged merge.WrongRule = WrongRule
unmerged merge.Worn = Worn
unmerged merge.NoMemory = NoMemory

-- it is not the frame's fault
abbrev pub IsOwnFault : NodeFault → Type 0
IsOwnFault WrongHeap = ⊥
IsOwnFault WrongRule = ⊥
IsOwnFault Worn = Unit {0}
IsOwnFault NoMemory = Unit {0}
