use Rattle.std.proofs.Common.{◌∙◌}
use Rattle.zq_words.proofs.Digits.{plain_score}
use Rattle.zq_words.proofs.Passing.{score_passed}
use Rattle.zq_words.proofs.number.parse_score.Goals as goal

pub returns-in-Some : goal.returns-in-Some
returns-in-Some c = c.within.ensures ∙ plain_score c.args.text.now c.in-Some.amount c.in-Some.ensures.digits c.in-Some.ensures.amount

pub returns-in_ok-whole_part-in-None : goal.returns-in_ok-whole_part-in-None
returns-in_ok-whole_part-in-None c = c.in_range.ensures ∙ score_passed _ _ c.in_ok-whole_part-in-None.field-0.now c.parse_whole.result c.in_ok-whole_part-in-None.ensures c.parse_whole.ensures
