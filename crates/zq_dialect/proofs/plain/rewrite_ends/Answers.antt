use Rattle.std.proofs.Common.{List, Ok, ap, ◌∷◌}
use Rattle.zq_dialect.proofs.Others.{ends_short}
use Rattle.zq_words.specs.Words.{Word}
use Rattle.zq_dialect.proofs.plain.rewrite_ends.Goals as goal

pub returns-in_default : goal.returns-in_default
returns-in_default c = ap (λ (ws : List Word). Ok (c.args.name.now ∷ ws)) (ends_short c.args.ends c.args.words.now c.in_default.len_below)
