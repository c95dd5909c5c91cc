use Rattle.std.proofs.Common.{sym, ◌∙◌}
use Rattle.zq_dialect.proofs.Capped.{new_bound_at}
use Rattle.zq_dialect.proofs.bounds.find_bound.Goals as goal

pub returns-in-Some : goal.returns-in-Some
returns-in-Some c =
    c.round_inward.ensures
    ∙ new_bound_at c.args.is_least c.args.text.now c.limit_of-number.result.now c.is_open-is_out.result c.in-Some.number c.is_open-is_out.ensures c.limit_of-number.ensures
    (sym c.is_plain_number.ensures ∙ c.if-is_plain_number.false) c.in-Some.ensures
