-- Each child of a node is lower than the node.
use Rattle.std.specs.Prelude.{◌≤◌, ◌+◌, max, ℕ, List, [], ◌∷◌}
use Rattle.std.specs.List.{AllByRecursion}
use Rattle.std.proofs.Common.{arith}
use denote.Param.Weighed.{most}
use Rattle.zq_ranked.specs.declared.child.Child.{Child}
use Rattle.zq_ranked.specs.declared.node.Form.{Form}
use Rattle.zq_ranked.specs.declared.node.Form.TheVariants.{Branch, Leaf}
use Rattle.zq_ranked.specs.declared.node.Node.TheDeep.{deep-Child, deep-Node}
use Rattle.zq_ranked.specs.Shape.{IsChild, IsForm, view_of}

-- no child is deeper than their height says
most_le-height : (height : ℕ) (children : List Child) → AllByRecursion (IsChild height) children →
    most deep-Child children ≤ height + 1
most_le-height height [] h = omega arith
most_le-height height (c ∷ cs) h = omega (arith, h.0.level, most_le-height height cs h.1)

-- with nothing beside it
alone : (n k : ℕ) → n ≤ k → max (max (max n 0) 0) 0 ≤ k
alone n k h = omega (arith, h)

-- no child is deeper than the node is high
pub depth_le-height : (f : Form) → IsForm f → deep-Node (record { form = f }) ≤ (view_of f).1
depth_le-height (Leaf block) h = omega arith
depth_le-height (Branch fork) h =
    alone (most deep-Child fork.children.items) (fork.level + 1)
    (most_le-height fork.level fork.children.items h.each)
