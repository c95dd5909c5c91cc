use Rattle.std.proofs.Common.{Bool, arith, length, refl, ◌+◌, ◌∙◌, ◌≡◌}
use Rattle.zq_commands.proofs.Counts.{pairs_all, pairs_in, pairs_most, upto_next}
use Rattle.zq_model.specs.Meaning.{Scored}
use Rattle.zq_model.specs.Readings.{is_before}
use Rattle.zq_commands.proofs.totals.total_before.Goals as goal

pub loop-place-preserved : goal.loop-place-preserved
loop-place-preserved g c =
    let lent = g.B.Books.lent c.args.books.now in
    let passes : Scored → Bool = λ pair. is_before pair (c.args.score.now, c.args.member.now) in
    record {
      total =
          let next = upto_next (pairs_in lent c.args.key.now passes) lent.books c.loop-place.place c.count_before.result (omega (arith, c.loop-place-test.true, c.len-place-end.ensures.number)) c.count_before.ensures in
          omega (arith, next, c.loop-place.invariant.total, c.in_ok-total.ensures.sum);
      small = c.in_ok-total.ensures.small;
    }

pub returns-clause-total : goal.returns-clause-total
returns-clause-total g c =
    let lent = g.B.Books.lent c.args.books.now in
    let all : c.loop-place.place ≡ length lent.books = omega (arith, c.loop-place-test.false, c.loop-place.auto.place-end, c.len-place-end.ensures.number) in
    c.loop-place.invariant.total ∙ pairs_all lent c.args.key.now (λ pair. is_before pair (c.args.score.now, c.args.member.now)) c.loop-place.place c.requires all

pub returns-in_err-total-clause-past : goal.returns-in_err-total-clause-past
returns-in_err-total-clause-past g c = λ _.
    let lent = g.B.Books.lent c.args.books.now in
    let next = upto_next (pairs_in lent c.args.key.now (λ pair. is_before pair (c.args.score.now, c.args.member.now))) lent.books c.loop-place.place c.count_before.result (omega (arith, c.loop-place-test.true, c.len-place-end.ensures.number)) c.count_before.ensures in
    let most = pairs_most lent c.args.key.now (λ pair. is_before pair (c.args.score.now, c.args.member.now)) (c.loop-place.place + 1) c.requires in
    let past = c.in_err-total.ensures.past refl in
    omega (arith, next, most, past, c.loop-place.invariant.total)
