use Rattle.std.proofs.Common.{take, ◌≡◌}
use Rattle.std.specs.List.{list_all}
use Rattle.zq_log.specs.Pairs.{is_bare}
use Rattle.zq_log.proofs.pairs.all_bare.Given as goal

abbrev pub invariant-loop-byte : goal.invariant-loop-byte
invariant-loop-byte l = l.bare ≡ list_all is_bare (take l.byte-index l.value)
