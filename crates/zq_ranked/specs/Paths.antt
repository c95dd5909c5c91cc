-- What comes before a block, or after it, of each height the nodes under one fork.
use Rattle.std.specs.Borrow.{Bor}
use Rattle.std.specs.Prelude.{ℕ, ◌+◌, List, [], ◌∷◌, ◌++◌}
use Rattle.std.specs.List.{AllByRecursion}
use Rattle.zq_ranked.specs.Order.{Scored}
use Rattle.zq_ranked.specs.declared.child.Child.{Child}
use Rattle.zq_ranked.specs.Shape.{IsChild, joined}

-- the pairs that come after, those of the lower nodes first
abbrev pub onward : List (Bor (List Child)) → List Scored
onward [] = []
onward (children ∷ higher) = joined children.now ++ onward higher

-- the pairs that come before, those of the lower nodes last
abbrev pub backward : List (Bor (List Child)) → List Scored
backward [] = []
backward (children ∷ higher) = backward higher ++ joined children.now

-- the nodes are of heights from this one upward
abbrev pub AreOfHeights : ℕ → List (Bor (List Child)) → Type 0
AreOfHeights height [] = Unit {0}
AreOfHeights height (children ∷ higher) = AllByRecursion (IsChild height) children.now
    × AreOfHeights (height + 1) higher

-- the nodes at each place are of that height
pub record IsPath (levels : List (Bor (List Child))) : Type 0 where
  pub heights : AreOfHeights 0 levels
