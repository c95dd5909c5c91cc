use Rattle.std.proofs.Common.{ap, arith, length, subst, sym, true}
use Rattle.std.proofs.lemmas.Int.{to_z-of_z}
use Rattle.std.specs.Int.{w128}
use Rattle.zq_ranked.proofs.Puts.{length_put, ranking_put}
use Rattle.zq_ranked.specs.Order.{IsRanking, Scored}
use Rattle.zq_ranked.proofs.ranked.Ranked.insert.Goals as goal

pub invariant_of-self-then-added : goal.invariant_of-self-then-added
invariant_of-self-then-added c =
    let xs = c.self.inside.root.0 in
    let t : Scored = (c.args.score, c.args.member.now) in
    let put = rw (to_z-of_z w128 c.args.score c.ranges.score, c.if-added.true) at c.in_ok-added.ensures.put in
    (subst (λ l. IsRanking l) (sym c.raise.ensures.pairs) (ranking_put t xs c.insert.new.self.0 true c.self.invariant.0 c.ranges.score put), omega (arith, c.self.invariant.1, length_put t xs c.insert.new.self.0 put, ap length c.raise.ensures.pairs), c.raise.ensures.root)
