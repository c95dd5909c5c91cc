use Rattle.std.proofs.Common.{refl}
use Rattle.zq_model.specs.Sets.{SITES}
use Rattle.zq_follow.proofs.site_set.SiteSet.empty.Goals as goal

pub invariant_of-result : goal.invariant_of-result
unfolding SITES
invariant_of-result c = refl

pub returns : goal.returns
unfolding SITES
returns c = refl
