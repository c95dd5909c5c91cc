use Rattle.std.proofs.Common.{◌≡◌, count_by, take}
use Rattle.zq_fields.specs.Spelling.{is_known}
use Rattle.zq_fields.proofs.sparse.known.Given as goal

abbrev pub invariant-loop-number : goal.invariant-loop-number
invariant-loop-number l = l.count ≡ count_by is_known (take l.number l.vector)
