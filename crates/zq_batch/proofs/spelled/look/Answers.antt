use Rattle.std.proofs.Common.{ap, arith, ◌∙◌, ◌∷◌, ◌≡◌}
use Rattle.zq_batch.proofs.Looked.{fields_fail}
use Rattle.zq_batch.proofs.spelled.look.Goals as goal

pub returns-in-Err-clause-none : goal.returns-in-Err-clause-none
returns-in-Err-clause-none c = λ none o left ranged is.
    (let two : c.in_ok-version.version ≡ 2 = omega arith in
    fields_fail c.args.bytes.now.now c.in_ok-version.rest.now c.in-Err.field-0 (c.in_ok-version.ensures.found ∙ ap (λ b. b ∷ c.in_ok-version.rest.now) two) c.in-Err.ensures.exact o left ranged is)
