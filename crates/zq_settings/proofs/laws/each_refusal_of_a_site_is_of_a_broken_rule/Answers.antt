use Rattle.zq_settings.proofs.SiteBroken.{each_refusal_of_a_site_is_of_a_broken_rule}
use Rattle.zq_settings.proofs.laws.each_refusal_of_a_site_is_of_a_broken_rule.Goals as goal

pub returns : goal.returns
returns c = each_refusal_of_a_site_is_of_a_broken_rule
