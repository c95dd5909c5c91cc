use Rattle.std.proofs.Common.{ap, arith, option_map, sym, ◌∙◌}
use Rattle.zq_dialect.proofs.Splitting.{number_marked}
use Rattle.zq_dialect.specs.Rounded.{capped, rounded}
use Rattle.zq_dialect.proofs.number.parse_number.Goals as goal

pub returns-in-Some : goal.returns-in-Some
returns-in-Some c =
    c.parse_marked.ensures
    ∙ ap (option_map (λ n. capped (rounded n)))
    (number_marked c.args.text.now c.split_at.result.0.now c.split_at.result.1.now c.in-Some.mark (omega (arith, c.if-text-gt-LONGEST.false)) (sym c.in-Some.ensures.place)
    c.split_at.ensures.front c.split_at.ensures.back)
