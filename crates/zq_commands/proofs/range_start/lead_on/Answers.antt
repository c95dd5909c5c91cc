use Rattle.std.proofs.Common.{arith, subst, sym}
use Rattle.std.specs.Prelude.{IfSome}
use Rattle.zq_commands.specs.Lending.{queues_in}
use Rattle.zq_commands.specs.Starts.{IsStart}
use Rattle.zq_commands.proofs.range_start.lead_on.Goals as goal
use Rattle.zq_commands.proofs.range_start.lead_on.Goals.{in-None, in-Some}

pub loop-look-preserved : goal.loop-look-preserved
loop-look-preserved g c =
    let is_start = IsStart c.args.is_turned c.args.section.now (queues_in (g.B.Books.lent c.args.books.now) c.args.key.now) in
    elim c.match-branch-2.branch [
      | in-Some w ↦ record {
        start = subst is_start (sym w.start-is) (subst (λ next. IfSome next is_start) w.in-Some.is c.in_ok-next.ensures);
        fits = omega (arith, w.high-is, c.loop-look.invariant.fits);
      }
      | in-None w ↦ record {
        start = subst is_start (sym w.start-is) c.loop-look.invariant.start;
        fits = omega (arith, w.high-is, c.place_between-at.ensures.high, c.loop-look.invariant.fits);
      }
    ]
