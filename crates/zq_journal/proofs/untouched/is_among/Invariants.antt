use Rattle.std.proofs.Common.{◌≡◌, length}
use Rattle.zq_journal.specs.Untouched.{is_among, keys_of}
use Rattle.zq_journal.proofs.untouched.is_among.Given as goal

abbrev pub invariant-loop-rest : goal.invariant-loop-rest
invariant-loop-rest l = is_among (keys_of l.keys) l.key ≡ is_among (keys_of l.rest) l.key

abbrev pub decreases-loop-rest : goal.decreases-loop-rest
decreases-loop-rest l = length l.rest
