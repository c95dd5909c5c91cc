use Rattle.zq_settings.proofs.MeantSite.{site_settings_are_of_the_table}
use Rattle.zq_settings.proofs.laws.site_settings_are_of_the_table.Goals as goal

pub returns : goal.returns
returns c = site_settings_are_of_the_table
