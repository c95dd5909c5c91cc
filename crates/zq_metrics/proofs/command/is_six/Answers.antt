use Rattle.std.proofs.Common.{[], rules, ◌∷◌}
use Rattle.zq_metrics.proofs.Names.{spelled_in}
use Rattle.zq_metrics.proofs.command.is_six.Goals as goal

pub returns-in-len6 : goal.returns-in-len6
returns-in-len6 c =
    spelled_in 6 c.are_spelled.result c.args.name.now c.args.text (32 ∷ 32 ∷ []) (search rules) (search rules) c.requires c.are_spelled.ensures
