use Rattle.std.proofs.Common.{ℕ, ◌≤◌, ◌<◌, ◌^◌, length, sym, ◌∙◌, arith, rules}
use Rattle.std.proofs.lemmas.List.{length-take}
use Rattle.std.proofs.lemmas.Result.{err_from_is_err_and}
use Rattle.zq_wire.proofs.Framed.{only_length}
use Rattle.zq_wire.proofs.Steps.{err_begins, ok_begins}
use Rattle.zq_wire.proofs.unfinished.read_length.Goals as goal

pub returns-in_err-begin-in-Some-clause-step : goal.returns-in_err-begin-in-Some-clause-step
returns-in_err-begin-in-Some-clause-step c =
    let head = c.extend_from_slice.new.self.items in
    let few : length head ≤ 4 = omega (arith, c.in_ok-extend_from_slice.ensures.len, length-take {A = ℕ}) in
    let is = only_length c.in-Some.size head c.in-Some.field-0-1.now few (sym c.deref.ensures.value ∙ c.in-Some.ensures.found) in
    let fits : c.in-Some.size < 2 ^ 32 = search rules in
    let p = err_from_is_err_and c.from_residual-in_err-begin-in-Some.result c.from_residual-in_err-begin-in-Some.ensures.1 in
    rw (p.1, p.2) (err_begins c.args.most c.in-Some.size c.min-taken.result c.args.head.items c.args.bytes.now c.in_err-begin-in-Some.field-0.0 c.in_err-begin-in-Some.ensures fits
    (sym c.in_ok-extend_from_slice.ensures.items ∙ is))

pub returns-in_ok-begin-in-Some-clause-step : goal.returns-in_ok-begin-in-Some-clause-step
returns-in_ok-begin-in-Some-clause-step c =
    let head = c.extend_from_slice.new.self.items in
    let few : length head ≤ 4 = omega (arith, c.in_ok-extend_from_slice.ensures.len, length-take {A = ℕ}) in
    let is = only_length c.in-Some.size head c.in-Some.field-0-1.now few (sym c.deref.ensures.value ∙ c.in-Some.ensures.found) in
    ok_begins c.args.most c.in-Some.size c.min-taken.result c.args.head.items c.args.bytes.now c.in_ok-begin-in-Some.field-0 c.in_ok-begin-in-Some.ensures
    (sym c.in_ok-extend_from_slice.ensures.items ∙ is)
