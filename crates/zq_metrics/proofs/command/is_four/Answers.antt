use Rattle.std.proofs.Common.{[], rules, ◌∷◌}
use Rattle.zq_metrics.proofs.Names.{spelled_in}
use Rattle.zq_metrics.proofs.command.is_four.Goals as goal

pub returns-in-len4 : goal.returns-in-len4
returns-in-len4 c =
    spelled_in 4 c.are_spelled.result c.args.name.now c.args.text (32 ∷ 32 ∷ 32 ∷ 32 ∷ []) (search rules) (search rules) c.requires c.are_spelled.ensures
