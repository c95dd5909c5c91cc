use Rattle.std.proofs.Common.{arith}
use Rattle.zq_commands.proofs.ReadFrom.{none_left}
use Rattle.zq_commands.specs.Lending.{queues_in}
use Rattle.zq_commands.proofs.range_start.find_start.Goals as goal

pub loop-place-init : goal.loop-place-init
loop-place-init g c =
    let section = c.args.section.now in
    record {
      skipped = none_left c.args.is_turned section.min section.max (queues_in (g.B.Books.lent c.args.books.now) c.args.key.now);
      early = omega arith;
    }
