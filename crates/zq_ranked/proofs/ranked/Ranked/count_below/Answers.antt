use Rattle.std.proofs.Common.{◌∙◌}
use Rattle.std.proofs.lemmas.Int.{to_z-of_z}
use Rattle.std.specs.Int.{w128}
use Rattle.zq_ranked.proofs.Below.{count_all, rank_below, rank_next}
use Rattle.zq_ranked.proofs.ranked.Ranked.count_below.Goals as goal

pub returns-then-not-or_equal : goal.returns-then-not-or_equal
returns-then-not-or_equal c =
    let same = to_z-of_z w128 c.args.score c.ranges.score in
    rw c.if-not-or_equal.true ((rw same at c.rank.ensures) ∙ rank_below c.args.score c.args.self.now)

pub returns-in-Some : goal.returns-in-Some
returns-in-Some c =
    let same = to_z-of_z w128 c.args.score c.ranges.score in
    let next = rw same at c.in-Some.ensures in
    let back = rw (← next.1) at next.0 in
    rw c.if-not-or_equal.false ((rw (to_z-of_z w128 c.in-Some.next back) at c.rank-in-Some.ensures) ∙ rank_next c.args.score c.in-Some.next c.args.self.now next.1)

pub returns-in-None : goal.returns-in-None
returns-in-None c =
    let same = to_z-of_z w128 c.args.score c.ranges.score in
    let none = rw same at c.in-None.ensures in
    rw c.if-not-or_equal.false (c.len.ensures.len ∙ count_all c.args.score c.args.self.now c.ranges.score none c.len.ensures.in_order.in_range)
