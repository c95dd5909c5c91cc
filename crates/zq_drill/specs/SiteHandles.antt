-- A place at a site.

use Rattle.std.specs.Arc.{arc_value}
use Rattle.std.specs.Prelude.{List, map, ℕ}
use Rattle.zq_drill.specs.declared.site_handle.SiteHandle.{SiteHandle}
use Rattle.zq_spread.specs.declared.pass.Pass.{Pass}
use Rattle.zq_spread.specs.declared.site.Site.{Site}

abbrev pub site_of : SiteHandle → Site
site_of handle = (arc_value handle.drill_site).site

-- a site, and a pass by which it is used
pub record Place : Type 0 where
  pub site : Site
  pub pass : Pass

abbrev pub place_at : Site → Pass → Place
place_at site pass = record { site = site; pass = pass }

abbrev pub place_of : SiteHandle → Place
place_of handle = place_at (site_of handle) handle.pass

abbrev pub places_of : List SiteHandle → List Place
places_of handles = map place_of handles

-- the numbers of the sites
abbrev pub numbers_of : List Place → List ℕ
numbers_of places = map (λ place. place.site.number) places
