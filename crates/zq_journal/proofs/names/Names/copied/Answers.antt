use Rattle.std.proofs.Common.{arith}
use Rattle.zq_journal.proofs.Halves.{halves_here}
use Rattle.zq_journal.proofs.names.Names.copied.Goals as goal

pub returns : goal.returns
returns c = halves_here c.args.key.now c.args.member.now _ (omega (arith, c.if-end-gt-SHORT.false)) c.put_both.ensures
