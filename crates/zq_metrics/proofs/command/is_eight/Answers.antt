use Rattle.std.proofs.Common.{[], rules}
use Rattle.zq_metrics.proofs.Names.{spelled_in}
use Rattle.zq_metrics.proofs.command.is_eight.Goals as goal

pub returns-in-len8 : goal.returns-in-len8
returns-in-len8 c =
    spelled_in 8 c.are_spelled.result c.args.name.now c.args.text [] (search rules) (search rules) c.requires c.are_spelled.ensures
