use Rattle.std.proofs.Common.{ap, arith, length, ◌≡◌}
use Rattle.zq_ranked.proofs.AtBranch.{fork_at, pairs_at}
use Rattle.zq_ranked.proofs.Joined.{no_children, no_pairs}
use Rattle.zq_ranked.proofs.node.Node.is_empty.Goals as goal

pub returns-in-Branch : goal.returns-in-Branch
returns-in-Branch c =
    let xs = c.in-Branch.fork.children.items in
    rw (pairs_at c.self.view_is c.in-Branch.is) (λ h. (let z : length xs ≡ 0 = grind arith in ap length (no_pairs xs z)), λ h. (let z : length xs ≡ 0 = no_children c.in-Branch.fork.level xs (fork_at c.self.invariant c.in-Branch.is).each h in grind arith))
