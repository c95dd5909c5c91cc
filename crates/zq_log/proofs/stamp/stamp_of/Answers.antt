use Rattle.std.proofs.Common.{[], ap, pos, ◌%◌, ◌++◌, ◌/◌, ◌∙◌, ◌∷◌}
use Rattle.zq_log.specs.Stamp.{DAY, clock_text, date_text}
use Rattle.zq_log.proofs.stamp.stamp_of.Goals as goal

pub returns : goal.returns
returns c =
    let date = c.date_of-date.result in (
      date,
      c.date_of-date.ensures ∙ ap (λ n. pos (n / DAY)) c.min-milli.ensures,
      c.text_of.ensures ∙ ap (λ n. date_text date ++ 84 ∷ clock_text (n % DAY) ++ 90 ∷ []) c.min-milli.ensures,
    )
