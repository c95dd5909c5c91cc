use Rattle.std.proofs.Common.{[], rules, ◌∷◌}
use Rattle.zq_metrics.proofs.Names.{spelled_in}
use Rattle.zq_metrics.proofs.command.is_seven.Goals as goal

pub returns-in-len7 : goal.returns-in-len7
returns-in-len7 c =
    spelled_in 7 c.are_spelled.result c.args.name.now c.args.text (32 ∷ []) (search rules) (search rules) c.requires c.are_spelled.ensures
