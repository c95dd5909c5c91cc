-- How sites are made.

use Rattle.std.specs.Prelude.{All, List, length, map, replicate, ℕ, ◌≡◌}
use Rattle.zq_journal.specs.Limits.{limits_of}
use Rattle.zq_model.specs.Limits.{standard}
use Rattle.zq_serve.specs.SiteThreads.{ServedSite, served_lent, sites_before}
use Rattle.zq_session.specs.LentSites.{IsSpareOf, sites_of}
use Rattle.zq_session.specs.declared.lent_site.LentSite.{LentSite}
use Rattle.zq_session.specs.declared.site_plan.SitePlan.{SitePlan}
use Rattle.zq_settings.specs.declared.values.Settings.{Settings}

-- the site that is made by a plan
abbrev pub planned : SitePlan → ServedSite
planned plan = record { number = plan.number; heaps = plan.heaps; rule = plan.rule }

-- the plans of the settings' sites: one for each port, with a server for each worker, and with the
-- standard limits
pub record ArePlansOf (settings : Settings) (plans : List SitePlan) : Type 0 where
  pub sites_are : map planned plans ≡ sites_before settings (length settings.ports)
  pub servers_are : All (λ (plan : SitePlan). plan.servers ≡ settings.workers) plans
  pub tails_are : All (λ (plan : SitePlan). limits_of plan.tails ≡ standard) plans

-- the site has so many passes, and one to spare
pub record IsManned (workers : ℕ) (lent : LentSite) : Type 0 where
  pub passes_are : sites_of lent.passes.items ≡ replicate workers lent.site.now
  pub spare_is : IsSpareOf lent.site.now lent.spare

-- the sites are those of the settings, each with a pass for each worker and one to spare
pub record ArePlanned (settings : Settings) (sites : List LentSite) : Type 0 where
  pub sites_are : map served_lent sites ≡ sites_before settings (length settings.ports)
  pub each : All (IsManned settings.workers) sites
