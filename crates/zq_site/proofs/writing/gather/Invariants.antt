use Rattle.std.proofs.Common.{take, ◌++◌, ◌≡◌}
use Rattle.zq_site.proofs.writing.gather.Given as goal
use Rattle.zq_site.specs.FrameQueues.{frames_of}
use Rattle.zq_site.specs.Written.{framed_each}

abbrev pub invariant-loop-frame : goal.invariant-loop-frame
invariant-loop-frame l = l.bytes.items ≡ l.initial.bytes.items ++ framed_each (frames_of (take l.frame-index l.frames))
