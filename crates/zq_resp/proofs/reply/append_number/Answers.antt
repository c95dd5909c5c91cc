use Rattle.std.proofs.Common.{[], arith, decimal, ◌+◌, ◌∷◌, ◌≡◌}
use Rattle.std.proofs.lemmas.Fmt.{decimal_digit}
use Rattle.std.proofs.lemmas.Grind.{common_steps}
use Rattle.zq_resp.proofs.reply.append_number.Goals as goal

pub returns-in_err-reserve-clause-full : goal.returns-in_err-reserve-clause-full
returns-in_err-reserve-clause-full c =
    let digit : decimal c.args.number ≡ (48 + c.args.number) ∷ [] = decimal_digit c.args.number (omega (arith, c.if-number-ge10.false)) in
    grind (arith, digit)

pub returns-clause-written : goal.returns-clause-written
returns-clause-written c =
    let digit : decimal c.args.number ≡ (48 + c.args.number) ∷ [] = decimal_digit c.args.number (omega (arith, c.if-number-ge10.false)) in
    grind (arith, common_steps, digit)
