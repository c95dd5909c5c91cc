use Rattle.std.proofs.Common.{ap, arith, ◌++◌, ◌∙◌, ◌≡◌, ◌-◌, sym}
use Rattle.std.proofs.lemmas.Result.{err_from_is_err_and}
use Rattle.zq_batch.proofs.Varints.{at_end, at_fails, at_last, at_long, at_more, at_none, groups_found, groups_last, more_below, numbers_most, numbers_next, numbers_some}
use Rattle.zq_batch.proofs.varint.+read_groups.Goals as goal

pub returns-then-most-eq0-clause-exact : goal.returns-then-most-eq0-clause-exact
returns-then-most-eq0-clause-exact t c = let none : c.args.most ≡ 0 = omega arith in rw none (at_none c.args.at c.args.bytes.now.now)

pub returns-in_default-clause-exact : goal.returns-in_default-clause-exact
returns-in_default-clause-exact t c = at_end c.args.most c.args.at c.args.bytes.now.now (omega arith) c.in_default.ensures.exact

pub returns-then-byte-lt128-clause-exact : goal.returns-then-byte-lt128-clause-exact
returns-then-byte-lt128-clause-exact t c = rw c.in-Some.ensures.found (at_last c.args.most c.args.at c.in-Some.byte c.in-Some.rest.now (omega arith) (omega arith))

pub returns-then-byte-lt128-clause-found : goal.returns-then-byte-lt128-clause-found
returns-then-byte-lt128-clause-found t c =
    c.in-Some.ensures.found ∙ sym (ap (λ x. x ++ c.in-Some.rest.now) (groups_last c.args.most c.in-Some.byte (omega arith) (omega arith)))

pub returns-then-byte-lt128-clause-below : goal.returns-then-byte-lt128-clause-below
returns-then-byte-lt128-clause-below t c =
    let next = numbers_next c.args.most (omega arith) in
    let some = numbers_some (c.args.most - 1) in
    omega arith

pub returns-in_err-high-clause-exact : goal.returns-in_err-high-clause-exact
returns-in_err-high-clause-exact t c =
    let p = err_from_is_err_and c.from_residual.result c.from_residual.ensures.1 in
    rw (p.1, p.2, c.in-Some.ensures.found) (at_fails c.args.most c.args.at c.in-Some.byte c.in-Some.rest.now c.in_err-high.field-0.0 (omega arith) (omega arith) c.in_err-high.ensures.exact)

pub returns-then-high-eq0-clause-exact : goal.returns-then-high-eq0-clause-exact
returns-then-high-eq0-clause-exact t c =
    rw c.in-Some.ensures.found (at_long c.args.most c.args.at c.in-Some.byte c.in_ok-high.high c.in-Some.rest.now c.read_groups.new.bytes.now (omega arith) (omega arith) c.in_ok-high.ensures.exact (omega arith))

pub overflow_mul-result : goal.overflow_mul-result
overflow_mul-result t c =
    let next = numbers_next c.args.most (omega arith) in
    let most = numbers_most c.args.most c.requires in
    let below = c.in_ok-high.ensures.below in
    record { fits = omega arith }

pub overflow_add-result : goal.overflow_add-result
overflow_add-result t c =
    let next = numbers_next c.args.most (omega arith) in
    let most = numbers_most c.args.most c.requires in
    let below = c.in_ok-high.ensures.below in
    record { fits = omega arith }

pub returns-clause-exact : goal.returns-clause-exact
returns-clause-exact t c =
    rw (c.in-Some.ensures.found, c.low_group.ensures.group) (at_more c.args.most c.args.at c.in-Some.byte c.in_ok-high.high c.in-Some.rest.now c.read_groups.new.bytes.now (omega arith) (omega arith) c.in_ok-high.ensures.exact (omega arith))

pub returns-clause-found : goal.returns-clause-found
returns-clause-found t c =
    rw c.low_group.ensures.group (c.in-Some.ensures.found ∙ groups_found c.args.most c.in-Some.byte c.in_ok-high.high c.in-Some.rest.now c.read_groups.new.bytes.now (omega arith) (omega arith) c.low_group.ensures.byte (omega arith) c.in_ok-high.ensures.found)

pub returns-clause-below : goal.returns-clause-below
returns-clause-below t c = rw c.low_group.ensures.group (more_below c.args.most c.in-Some.byte c.in_ok-high.high (omega arith) c.low_group.ensures.byte c.in_ok-high.ensures.below)
