use Rattle.std.proofs.Common.{take, ◌++◌, ◌≡◌}
use Rattle.std.specs.String.{string_bytes}
use Rattle.zq_metrics.specs.Page as wanted
use Rattle.zq_metrics.proofs.page.write_ups.Given as goal

abbrev pub invariant-loop-peer : goal.invariant-loop-peer
invariant-loop-peer l = string_bytes l.out ≡ string_bytes l.initial.out ++ wanted.ups (take l.peer-index l.peers)
