use Rattle.std.proofs.Common.{Ok, ap, sym, ◌∙◌}
use Rattle.zq_dialect.proofs.OlderNames.{few_views}
use Rattle.zq_dialect.proofs.older.rewrite_older.Goals as goal

pub returns-in_ok-rename-in_default : goal.returns-in_ok-rename-in_default
returns-in_ok-rename-in_default c =
    few_views c.args.ends c.args.words.now c.in_default.len_below ∙ ap Ok (sym c.in_ok-rename-in_default.ensures)
