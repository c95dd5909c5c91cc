use Rattle.std.proofs.Common.{sym, ◌∙◌}
use Rattle.zq_dialect.proofs.Capped.{new_score_found, no_score_found}
use Rattle.zq_dialect.proofs.scores.find_score.Goals as goal

pub returns-in-Some : goal.returns-in-Some
returns-in-Some c =
    c.find_whole.ensures
    ∙ new_score_found c.args.text.now c.in-Some.number (sym c.is_plain_number.ensures ∙ c.if-is_plain_number.false) c.in-Some.ensures

pub returns-in-None : goal.returns-in-None
returns-in-None c = no_score_found c.args.text.now (sym c.is_plain_number.ensures ∙ c.if-is_plain_number.false) c.in-None.ensures
