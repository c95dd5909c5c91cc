use Rattle.std.proofs.Common.{rules, sym, true, ◌∙◌, ◌≡◌}
use Rattle.std.specs.Char.{is_ascii_digit}
use Rattle.std.specs.List.{list_all}
use Rattle.zq_admin.proofs.CountsRead.{count_read, count_unread}
use Rattle.zq_admin.proofs.count.count_of.Goals as goal

pub returns-in_err-number : goal.returns-in_err-number
returns-in_err-number c =
    let digits : list_all is_ascii_digit c.args.digits.now ≡ true = search rules in
    c.from_residual.ensures ∙ count_unread c.args.digits.now c.parse.result c.parse.ensures.value.0 digits (sym c.ok.ensures.value ∙ c.in_err-number.was)

pub returns : goal.returns
returns c =
    let digits : list_all is_ascii_digit c.args.digits.now ≡ true = search rules in
    c.bounded.ensures ∙ count_read c.args.digits.now c.in_ok-number.number c.parse.result c.parse.ensures.value.0 digits (sym c.ok.ensures.value ∙ c.in_ok-number.was)
