use Rattle.std.proofs.Common.{Bool, arith, length, option_map, ◌∙◌, ◌≡◌}
use Rattle.zq_commands.proofs.Counts.{pairs_all, pairs_in, upto_next}
use Rattle.zq_commands.specs.FirstPairs.{lent_pair}
use Rattle.zq_commands.specs.Starts.{is_left}
use Rattle.zq_model.specs.Meaning.{Scored}
use Rattle.zq_commands.proofs.totals.total_left.Goals as goal

pub loop-place-preserved : goal.loop-place-preserved
loop-place-preserved g c =
    let lent = g.B.Books.lent c.args.books.now in
    let section = c.args.section.now in
    let passes : Scored → Bool = is_left c.args.is_turned (option_map lent_pair c.args.first) section.min section.max in
    record {
      total =
          let next = upto_next (pairs_in lent c.args.key.now passes) lent.books c.loop-place.place c.count_left-left.result (omega (arith, c.loop-place-test.true, c.len-place-end.ensures.number)) c.count_left-left.ensures in
          omega (arith, next, c.loop-place.invariant.total, c.in_ok-total.ensures.sum);
      small = c.in_ok-total.ensures.small;
    }

pub returns-clause-total : goal.returns-clause-total
returns-clause-total g c =
    let lent = g.B.Books.lent c.args.books.now in
    let section = c.args.section.now in
    let all : c.loop-place.place ≡ length lent.books = omega (arith, c.loop-place-test.false, c.loop-place.auto.place-end, c.len-place-end.ensures.number) in
    c.loop-place.invariant.total ∙ pairs_all lent c.args.key.now (is_left c.args.is_turned (option_map lent_pair c.args.first) section.min section.max) c.loop-place.place c.requires all
