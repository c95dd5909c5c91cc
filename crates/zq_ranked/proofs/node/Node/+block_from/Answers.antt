use Rattle.std.proofs.Common.{arith, drop, ◌+◌}
use Rattle.zq_ranked.proofs.AtBranch.{pairs_at}
use Rattle.zq_ranked.proofs.Joined.{from_child, part_joined}
use Rattle.zq_ranked.proofs.node.Node.+block_from.Goals as goal

pub returns-else-index-len-clause-part : goal.returns-else-index-len-clause-part
returns-else-index-len-clause-part t c =
    let xs = c.in-Branch.fork.children.items in
    let i = c.seek-index.result.0 in
    let k = c.index.result.now in
    let e = from_child xs i k (grind arith) c.index.ensures in
    rw (pairs_at c.self.view_is c.in-Branch.is) (part_joined xs i k (drop (i + 1) xs) c.args.place c.seek-index.result.1 c.block_from.result.now e c.seek-index.ensures.place (c.seek-index.ensures.inside.each k _ e) c.block_from.ensures.part)

pub returns-else-index-len-clause-some : goal.returns-else-index-len-clause-some
returns-else-index-len-clause-some t c = λ h.
    let xs = c.in-Branch.fork.children.items in
    let i = c.seek-index.result.0 in
    let k = c.index.result.now in
    c.block_from.ensures.some (c.seek-index.ensures.inside.each k _ (from_child xs i k (grind arith) c.index.ensures))
