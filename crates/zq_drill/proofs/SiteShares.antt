-- Handles of one site.
use Rattle.std.proofs.Common.{ap}
use Rattle.std.specs.Arc.{arc_value}
use Rattle.std.specs.Prelude.{◌≡◌}
use Rattle.zq_drill.specs.SiteHandles.{site_of}
use Rattle.zq_drill.specs.declared.site_handle.SiteHandle.{SiteHandle}
use Rattle.zq_drill.specs.declared.drill_site.DrillSite.{DrillSite}

-- they are of one site
pub same_site : (p q : SiteHandle) → p.drill_site ≡ q.drill_site → site_of p ≡ site_of q
same_site p q e = ap (λ (drill_site : DrillSite). drill_site.site) (ap arc_value e)
