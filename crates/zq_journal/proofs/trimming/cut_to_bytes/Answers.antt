use Rattle.std.proofs.Common.{List, arith, drop, ◌≤◌}
use Rattle.zq_journal.proofs.Weights.{none_cut}
use Rattle.zq_journal.specs.Records.{bytes_kept_in}
use Rattle.zq_journal.specs.declared.records.Record as code
use Rattle.zq_journal.proofs.trimming.cut_to_bytes.Goals as goal

pub returns-then-left-from : goal.returns-then-left-from
returns-then-left-from c =
    let rest : List code.Record = drop c.loop-place.place c.args.tail.now.items in
    let light : bytes_kept_in rest ≤ c.args.most = omega (arith, c.loop-place.invariant.left, c.if-left-from.true, c.from.ensures) in
    omega (arith, c.loop-place.invariant.cut, none_cut c.args.most rest light)
