use Rattle.std.specs.Prelude.{◌<◌, ◌^◌}
use Rattle.zq_commands.specs.Lending.{queues_in}
use Rattle.zq_commands.specs.Starts.{IsStart}
use Rattle.zq_commands.proofs.range_start.lead_on.Given as goal

abbrev pub invariant-loop-look : goal.invariant-loop-look
invariant-loop-look g l = record {
  start : IsStart l.is_turned l.section (queues_in (g.B.Books.lent l.books) l.key) l.start;
  fits : l.high < 2 ^ 64;
}
