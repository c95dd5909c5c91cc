-- Sites that are made by a plan, and lent.

use Rattle.std.specs.Prelude.{All, List, None, Option, Some, map, replicate, ◌+◌, ◌≡◌}
use Rattle.zq_dots.specs.Rule.{rule_of}
use Rattle.zq_journal.specs.Limits.{limits_of}
use Rattle.zq_model.specs.Books.{Book}
use Rattle.zq_session.specs.declared.lent_site.LentSite.{LentSite}
use Rattle.zq_session.specs.declared.made_site.MadeSite.{MadeSite}
use Rattle.zq_session.specs.declared.site_pass.SitePass.{SitePass}
use Rattle.zq_session.specs.declared.site_plan.SitePlan.{SitePlan}
use Rattle.zq_spread.specs.Calls.{heaps_of}
use Rattle.zq_spread.specs.Makers.{AreEmptyWithin, IsMade}
use Rattle.zq_spread.specs.Passes.{IsPassOf}
use Rattle.zq_spread.specs.declared.pass.Pass.{Pass}
use Rattle.zq_spread.specs.declared.site.Site.{Site}

-- each pass is one of the site's
abbrev pub AreOwn : MadeSite → Type 0
AreOwn made = All (IsPassOf made.site) made.passes.items

-- a new site of this plan, over books with its limits in which nothing was done, with two passes
-- to spare
abbrev pub IsMadeBy : SitePlan → MadeSite → Type 0
IsMadeBy plan made = (books : List Book)
    × AreEmptyWithin (limits_of plan.tails) plan.heaps (rule_of plan.rule) books
    × IsMade plan.number books (plan.servers + 2) made.site made.passes.items

-- the sites that these are passes of, one after the other
abbrev pub sites_of : List SitePass → List Site
sites_of passes = map (λ (own : SitePass). own.site.now) passes

-- there is a pass, and it is the site's
abbrev pub IsSpareOf : Site → Option SitePass → Type 0
IsSpareOf site (Some own) = own.site.now ≡ site
IsSpareOf site None = ⊥

-- this pass of the site is there
abbrev pub IsBack : Site → Pass → Option SitePass → Type 0
IsBack site pass (Some own) = (own.site.now ≡ site) × (own.pass ≡ pass)
IsBack site pass None = ⊥

-- a site of this plan, with a pass for each of its servers and two to spare
pub record IsLentBy (plan : SitePlan) (lent : LentSite) : Type 0 where
  pub number_is : lent.site.now.number ≡ plan.number
  pub heaps_are : heaps_of lent.site.now ≡ plan.heaps
  pub rule_is : lent.site.now.rule ≡ plan.rule
  pub passes_are : sites_of lent.passes.items ≡ replicate plan.servers lent.site.now
  pub spare_is : IsSpareOf lent.site.now lent.spare
  pub other_is : IsSpareOf lent.site.now lent.other
