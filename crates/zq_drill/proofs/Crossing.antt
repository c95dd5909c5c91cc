-- A handle may go to another thread.
use denote.Param.Send.{IsSend, IsSync, sendable}
use Rattle.std.proofs.Crossing.{crosses}
use Rattle.zq_drill.specs.contracts.site_handle.SiteHandle as Handle
use Rattle.zq_drill.specs.contracts.drill_site.DrillSite as DrillSite
use Rattle.zq_spread.proofs.Crossing.{pass_field_send, site_field_send, site_field_sync}

site_send : IsSend DrillSite.the_row
site_send = search (site_field_send, sendable, crosses) depth 30

site_sync : IsSync DrillSite.the_row
site_sync = search (site_field_sync, sendable, crosses) depth 30

pub post_send : IsSend Handle.the_row
post_send = search (site_send, site_sync, pass_field_send, sendable, crosses) depth 30
