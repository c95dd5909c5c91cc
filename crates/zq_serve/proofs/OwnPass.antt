-- A node that stayed at its site gives back a pass of that site.
use Rattle.std.proofs.Common.{ap, subst, ◌∙◌}
use Rattle.std.specs.Prelude.{ℕ, ◌≡◌}
use Rattle.zq_node.specs.Node.{IsNode, IsSameHome, pass_of, site_of}
use Rattle.zq_node.specs.declared.home.Home.{Home}
use Rattle.zq_node.specs.declared.node.Node.{Node}
use Rattle.zq_spread.specs.Passes.{IsPassOf}
use Rattle.zq_spread.specs.declared.site.Site.{Site}

pub own_pass : (site : Site) (old new : Node) → site_of old ≡ site → IsNode new → IsSameHome old new → IsPassOf site (pass_of new)
own_pass site old new is node home =
    let same : site_of new ≡ site = ap (λ (h : Home × ℕ). h.0.site.now) home ∙ is in
    subst (λ s. IsPassOf s (pass_of new)) same node.pass
