-- Why something happened to a site, in words.

use Rattle.std.specs.Prelude.{Bool, List, codes, false, if◌then◌else◌, true, ℕ}
use Rattle.zq_site.specs.Standings.{words_of_ending, words_of_reason}
use Rattle.zq_site.specs.declared.loss.Loss.{Loss}
use Rattle.zq_site.specs.declared.loss.Loss.TheVariants as loss
use Rattle.zq_site.specs.declared.why.Why.{Why}
use Rattle.zq_site.specs.declared.why.Why.TheVariants as why
use Rattle.zq_delta.specs.declared.fault.OpFault.{OpFault}
use Rattle.zq_delta.specs.declared.fault.OpFault.TheVariants as op
use Rattle.zq_links.specs.declared.frame_fault.FrameFault.{FrameFault}
use Rattle.zq_links.specs.declared.frame_fault.FrameFault.TheVariants as frame
use Rattle.zq_wire.specs.Words.{words_of}
use Rattle.zq_merge.specs.declared.fault.StateFault.{StateFault}
use Rattle.zq_merge.specs.declared.fault.StateFault.TheVariants as state
use Rattle.zq_node.specs.declared.faults.NodeFault.{NodeFault}
use Rattle.zq_node.specs.declared.faults.NodeFault.TheVariants as node
use Rattle.zq_peers.specs.declared.unheard.Unheard.{Unheard}
use Rattle.zq_peers.specs.declared.unheard.Unheard.TheVariants.{Refused, Unread}

-- why a link is down
abbrev pub words_of_loss : Loss → List ℕ
words_of_loss loss.Closed = codes "it was closed"
words_of_loss loss.Broken = codes "it broke"
words_of_loss loss.Silent = codes "nothing came for 20 seconds"
words_of_loss loss.TooLong = codes "a frame is too long"
words_of_loss loss.NoMemory = codes "there was no memory for what came"

-- whether memory was refused for an operation, for a state, and for a frame
abbrev pub is_memory_of_op : OpFault → Bool
is_memory_of_op op.NoMemory = true
is_memory_of_op fault = false

abbrev pub is_memory_of_state : StateFault → Bool
is_memory_of_state state.NoMemory = true
is_memory_of_state fault = false

abbrev pub is_memory : FrameFault → Bool
is_memory frame.NoMemory = true
is_memory (frame.Op number fault) = is_memory_of_op fault
is_memory (frame.State fault) = is_memory_of_state fault
is_memory fault = false

-- why a node refuses a frame
abbrev pub words_of_node : NodeFault → List ℕ
words_of_node node.WrongHeap = codes "it names a heap that is not this site's"
words_of_node node.WrongRule = codes "it has another rule"
words_of_node node.Worn = codes "a number is at its last value"
words_of_node node.NoMemory = codes "there was no memory for it"

-- why a frame was not heard
abbrev pub words_of_unheard : Unheard → List ℕ
words_of_unheard (Unread fault) =
    if is_memory fault then codes "there was no memory for it" else codes "it is no frame"
words_of_unheard (Refused fault) = words_of_node fault

-- why something happened to a site
abbrev pub words_of_why : Why → List ℕ
words_of_why (why.Refusal refusal) = words_of refusal
words_of_why (why.Reason reason) = words_of_reason reason
words_of_why (why.Ending ending) = words_of_ending ending
words_of_why (why.Loss loss) = words_of_loss loss
words_of_why (why.Unheard unheard) = words_of_unheard unheard
words_of_why why.OtherRun = codes "another run of its number is linked"
words_of_why why.Reused = codes "another run used its number"
words_of_why why.Used = codes "another run used this number"
words_of_why why.Known = codes "the peer knows another run of this number"
words_of_why why.Lacking = codes "a peer lacks something that this site made"
