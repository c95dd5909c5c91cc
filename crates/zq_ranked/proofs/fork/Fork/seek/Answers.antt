use Rattle.std.proofs.Common.{arith, length, refl, take}
use Rattle.zq_ranked.proofs.Joined.{counted_more}
use Rattle.zq_ranked.specs.Shape.{joined}
use Rattle.zq_ranked.proofs.fork.Fork.seek.Goals as goal

pub loop-index-preserved : goal.loop-index-preserved
loop-index-preserved c =
    let xs = c.args.self.now.children.items in
    let i = c.loop-index.index in
    let more = counted_more xs i c.index.result.now (grind arith) c.index.ensures c.args.self.now.level (length (joined (take i xs))) c.requires.fork.each refl in
    (grind arith, omega (arith, more, c.loop-index.invariant.1, c.if-rest-len.false))
