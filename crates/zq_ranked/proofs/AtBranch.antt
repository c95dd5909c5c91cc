-- What the fork of a node says of the node.
use Rattle.std.proofs.Common.{◌≡◌, ℕ, ◌+◌, List, sym, ap, subst, ◌∙◌}
use Rattle.zq_ranked.specs.Order.{Scored}
use Rattle.zq_ranked.specs.Shape.{IsFork, IsForm, joined, view_of}
use Rattle.std.specs.Prelude.{Vec}
use Rattle.std.specs.declared.alloc.Global.{Global}
use Rattle.zq_ranked.specs.declared.fork.Fork.{Fork}
use Rattle.zq_ranked.specs.declared.node.Form.{Form}
use Rattle.zq_ranked.specs.declared.node.Form.TheVariants.{Branch, Leaf}

-- the node's pairs are the fork's
pub pairs_at : {f : Form} {v : List Scored × ℕ} {k : Fork} → view_of f ≡ v → f ≡ Branch k → v.0 ≡ joined k.children.items
pairs_at p q = sym (ap (λ w. w.0) p) ∙ ap (λ f. (view_of f).0) q

-- the node is one level higher than the children
pub height_at : {f : Form} {v : List Scored × ℕ} {k : Fork} → view_of f ≡ v → f ≡ Branch k → v.1 ≡ k.level + 1
height_at p q = sym (ap (λ w. w.1) p) ∙ ap (λ f. (view_of f).1) q

-- the fork is one
pub fork_at : {f : Form} {k : Fork} → IsForm f → f ≡ Branch k → IsFork k
fork_at t q = subst IsForm q t

-- the pairs of a leaf are its block's
pub block_at : {f : Form} {v : List Scored × ℕ} {b : Vec Scored Global} → view_of f ≡ v → f ≡ Leaf b → v.0 ≡ b.items
block_at p q = sym (ap (λ w. w.0) p) ∙ ap (λ f. (view_of f).0) q
