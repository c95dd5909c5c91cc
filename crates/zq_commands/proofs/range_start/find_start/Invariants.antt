use Rattle.zq_commands.specs.Lending.{queues_in}
use Rattle.zq_commands.specs.Starts.{IsStart}
use Rattle.zq_commands.proofs.range_start.find_start.Given as goal

abbrev pub invariant-loop-place : goal.invariant-loop-place
invariant-loop-place g l = IsStart l.is_turned l.section (queues_in (g.B.Books.lent l.books) l.key) l.start
