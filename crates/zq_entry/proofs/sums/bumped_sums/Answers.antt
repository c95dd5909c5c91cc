use Rattle.std.proofs.Common.{arith, rules, ◌<◌}
use Rattle.std.specs.Int.{w128}
use mir.Val.{SFits}
use Rattle.zq_model.specs.Operation.{IsWithin, MOST}
use Rattle.zq_model.specs.Sets.{SITES}
use Rattle.zq_entry.proofs.SparseLemmas.{place-within}
use Rattle.zq_entry.proofs.SumLemmas.{or_zero}
use Rattle.zq_entry.proofs.SumWalks.{bumped, new-sum, old-sum}
use Rattle.zq_entry.proofs.sums.bumped_sums.Goals as goal

pub split_at-requires : goal.split_at-requires
split_at-requires c = omega (arith, c.place_of.ensures, place-within c.args.dot.site c.args.sums.now)

pub added-sum-requires : goal.added-sum-requires
added-sum-requires c =
    let below : c.args.dot.site < SITES = search rules in
    let amount : IsWithin MOST c.args.increment = search rules in
    new-sum c.args.dot.site c.args.dot.n c.args.sums.now (or_zero c.cut-old.result.0) c.args.increment below c.requires.counter.0 c.requires.counter.1
    (old-sum c.args.dot.site c.place_of.result c.args.sums.now c.split_at.result.1.now c.cut-old.result.0 c.requires.sums.rising c.place_of.ensures c.split_at.ensures.back c.cut-old.ensures.first)
    c.requires.room amount

-- with the new sum in its place they are the sums after the Bump
pub with_sum-requires : goal.with_sum-requires
with_sum-requires c =
    let below : c.args.dot.site < SITES = search rules in
    let amount : IsWithin MOST c.args.increment = search rules in
    let fits : SFits w128 c.added-sum.result = search rules in
    (bumped c.args.dot.site c.args.dot.n c.place_of.result c.args.increment c.added-sum.result c.cut-old.result.0 c.args.sums.now c.split_at.result.1.now c.split_at.result.0.now c.cut-old.result.1.now
    below c.requires.counter c.requires.sums c.requires.room amount c.place_of.ensures c.split_at.ensures.front c.split_at.ensures.back c.cut-old.ensures.first c.cut-old.ensures.rest c.added-sum.ensures fits).are_sums

pub returns : goal.returns
returns c =
    let below : c.args.dot.site < SITES = search rules in
    let amount : IsWithin MOST c.args.increment = search rules in
    let fits : SFits w128 c.added-sum.result = search rules in
    rw (← (bumped c.args.dot.site c.args.dot.n c.place_of.result c.args.increment c.added-sum.result c.cut-old.result.0 c.args.sums.now c.split_at.result.1.now c.split_at.result.0.now c.cut-old.result.1.now
    below c.requires.counter c.requires.sums c.requires.room amount c.place_of.ensures c.split_at.ensures.front c.split_at.ensures.back c.cut-old.ensures.first c.cut-old.ensures.rest c.added-sum.ensures fits).view) c.with_sum.ensures
