use Rattle.std.proofs.Common.{arith, length, refl, ◌+◌, ◌∙◌, ◌≡◌}
use Rattle.zq_commands.proofs.Counts.{members_all, members_in, members_most, upto_next}
use Rattle.zq_commands.proofs.totals.total_members.Goals as goal

pub loop-place-preserved : goal.loop-place-preserved
loop-place-preserved g c =
    let lent = g.B.Books.lent c.args.books.now in
    record {
      total =
          let next = upto_next (members_in lent c.args.key.now) lent.books c.loop-place.place c.count.result (omega (arith, c.loop-place-test.true, c.len-place-end.ensures.number)) c.count.ensures in
          omega (arith, next, c.loop-place.invariant.total, c.in_ok-total.ensures.sum);
      small = c.in_ok-total.ensures.small;
    }

pub returns-clause-total : goal.returns-clause-total
returns-clause-total g c =
    let lent = g.B.Books.lent c.args.books.now in
    let all : c.loop-place.place ≡ length lent.books = omega (arith, c.loop-place-test.false, c.loop-place.auto.place-end, c.len-place-end.ensures.number) in
    c.loop-place.invariant.total ∙ members_all lent c.args.key.now c.loop-place.place c.requires all

pub returns-in_err-total-clause-past : goal.returns-in_err-total-clause-past
returns-in_err-total-clause-past g c = λ _.
    let lent = g.B.Books.lent c.args.books.now in
    let next = upto_next (members_in lent c.args.key.now) lent.books c.loop-place.place c.count.result (omega (arith, c.loop-place-test.true, c.len-place-end.ensures.number)) c.count.ensures in
    let most = members_most lent c.args.key.now (c.loop-place.place + 1) c.requires in
    let past = c.in_err-total.ensures.past refl in
    omega (arith, next, most, past, c.loop-place.invariant.total)
