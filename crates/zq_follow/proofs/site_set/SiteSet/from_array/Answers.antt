use Rattle.std.proofs.Common.{sym, ◌∙◌}
use Rattle.zq_dots.proofs.Counters.{sites_is}
use Rattle.zq_follow.proofs.site_set.SiteSet.from_array.Goals as goal

pub invariant_of-result : goal.invariant_of-result
invariant_of-result c = c.well_formed.0.1.0.1 ∙ sym sites_is
