-- What a node of a tree is seen as, and what holds of it.
use Rattle.std.specs.Prelude.{◌≡◌, ℕ, ℤ, pos, ◌+◌, ◌<◌, ◌≤◌, List, [], ◌∷◌, ◌++◌, drop, length}
use Rattle.std.specs.List.{AllByRecursion}
use Rattle.zq_ranked.specs.Order.{Scored}
use Rattle.zq_ranked.specs.declared.child.Child.{Child}
use Rattle.zq_ranked.specs.declared.fork.Fork.{Fork}
use Rattle.zq_ranked.specs.declared.node.Form.{Form}
use Rattle.zq_ranked.specs.declared.node.Form.TheVariants.{Branch, Leaf}

-- the pairs of children, one child after another
abbrev pub joined : List Child → List Scored
joined [] = []
joined (c ∷ cs) = c.node.0 ++ joined cs

-- the score of the first pair, if there is one
abbrev pub first_score : List Scored → ℤ
first_score [] = pos 0
first_score (x ∷ xs) = x.0

-- a child of this height has pairs, and it is known how many, and the score of the first
pub record IsChild (height : ℕ) (c : Child) : Type 0 where
  pub level : c.node.1 ≡ height
  pub filled : 0 < length c.node.0
  pub len : c.len ≡ length c.node.0
  pub first : c.first ≡ first_score c.node.0

-- all children are of the height that the fork knows
pub record IsFork (f : Fork) : Type 0 where
  pub each : AllByRecursion (IsChild f.level) f.children.items

-- a place in the child of this index, if there is one
pub record IsInside (index within : ℕ) (children : List Child) : Type 0 where
  pub each : (c : Child) (cs : List Child) → drop index children ≡ c ∷ cs → within < length c.node.0

-- the pairs in order, and the height
abbrev pub view_of : Form → List Scored × ℕ
view_of (Leaf block) = (block.items, 0)
view_of (Branch fork) = (joined fork.children.items, fork.level + 1)

-- what holds of each node
abbrev pub IsForm : Form → Type 0
IsForm (Leaf block) = Unit {0}
IsForm (Branch fork) = IsFork fork

-- a root of forks has pairs, and no more than 12 levels
pub record IsRoot (v : List Scored × ℕ) : Type 0 where
  pub low : v.1 ≤ 12
  pub filled : 0 < v.1 → 0 < length v.0
