use Rattle.zq_settings.proofs.Meant.{settings_are_of_the_table}
use Rattle.zq_settings.proofs.laws.settings_are_of_the_table.Goals as goal

pub returns : goal.returns
returns c = settings_are_of_the_table
