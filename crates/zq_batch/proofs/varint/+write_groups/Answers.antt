use Rattle.std.proofs.Common.{ap, append-nil, append_assoc, arith, length, refl, subst, sym, take, ◌++◌, ◌∙◌, ◌∷◌, ◌≡◌, ◌+◌, ◌%◌, ◌/◌, ◌-◌, [], OnOk}
use Rattle.std.proofs.lemmas.List.{take_at}
use Rattle.zq_batch.specs.Varint.{groups}
use Rattle.zq_fields.proofs.Written.{kept_more}
use Rattle.zq_batch.proofs.Varints.{groups_last, groups_more, groups_none}
use Rattle.zq_batch.proofs.varint.+write_groups.Goals as goal

pub returns-then-most-eq0-clause-written : goal.returns-then-most-eq0-clause-written
returns-then-most-eq0-clause-written t c = let none : c.args.most ≡ 0 = omega arith in rw (none, groups_none c.args.number) (sym (append-nil c.args.out.now.items))

pub returns-then-number-lt128-clause-written : goal.returns-then-number-lt128-clause-written
returns-then-number-lt128-clause-written t c = rw (groups_last c.args.most c.args.number (omega arith) (omega arith)) c.write_byte.ensures.written

pub returns-clause-written : goal.returns-clause-written
returns-clause-written t c =
    let start = c.args.out.now.items in
    let last = groups (c.args.most - 1) (c.args.number / 128) in
    let all = ap (λ x. x ++ last) c.in_ok-write_byte.ensures.written ∙ append_assoc start ((128 + c.args.number % 128) ∷ []) last in
    rw (groups_more c.args.most c.args.number (omega arith) (omega arith)) (subst (λ x. OnOk c.write_groups.result (c.write_groups.new.out.items ≡ x)) all c.write_groups.ensures.written)

pub returns-clause-kept : goal.returns-clause-kept
returns-clause-kept t c =
    let start = c.args.out.now.items in
    let first : take (length start) c.write_byte-2.new.out.items ≡ start = ap (take (length start)) c.in_ok-write_byte.ensures.written ∙ take_at start _ (length start) refl in
    kept_more start c.write_byte-2.new.out.items c.write_groups.new.out.items first c.write_groups.ensures.kept
