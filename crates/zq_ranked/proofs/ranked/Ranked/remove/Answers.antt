use Rattle.std.proofs.Common.{ap, arith, length, subst, sym, true}
use Rattle.std.proofs.lemmas.Int.{to_z-of_z}
use Rattle.std.specs.Int.{w128}
use Rattle.zq_ranked.proofs.Puts.{length_taken, ranking_taken}
use Rattle.zq_ranked.specs.Order.{IsRanking, Scored}
use Rattle.zq_ranked.proofs.ranked.Ranked.remove.Goals as goal

pub invariant_of-self : goal.invariant_of-self
invariant_of-self c =
    let xs = c.self.inside.root.0 in
    let t : Scored = (c.args.score, c.args.member.now) in
    let taken = rw (to_z-of_z w128 c.args.score c.ranges.score, c.if-taken.true) at c.remove-taken.ensures.taken in
    (subst (λ l. IsRanking l) (sym c.lower.ensures.pairs) (ranking_taken t xs c.remove-taken.new.self.0 true c.self.invariant.0 taken), omega (arith, c.self.invariant.1, length_taken t xs c.remove-taken.new.self.0 c.self.invariant.0.sorted taken, ap length c.lower.ensures.pairs), c.lower.ensures.root)
