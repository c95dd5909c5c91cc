use Rattle.std.proofs.Common.{ap, arith, sym, ◌∙◌}
use Rattle.std.proofs.lemmas.Grind.{common_steps}
use Rattle.std.specs.Char.{is_ascii_digit}
use Rattle.zq_words.proofs.Positions.{passes_at, passes_nowhere}
use Rattle.zq_words.specs.Words.{are_all}
use Rattle.zq_dialect.proofs.digits.is_plain_number.Goals as goal

pub returns-in-None : goal.returns-in-None
returns-in-None c =
    let f = passes_nowhere _ c.args.text.now (sym c.in-None.ensures.place) in
    rw (f.0, f.1) (c.are_digits.ensures ∙ ap (are_all is_ascii_digit) c.unsigned.ensures)

pub returns-else-are_zeros : goal.returns-else-are_zeros
returns-else-are_zeros c =
    let f = passes_at _ c.args.text.now _ (sym c.in-Some.ensures.place) in rw (f.0, f.1) (grind (arith, common_steps))
