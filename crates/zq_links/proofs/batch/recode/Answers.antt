use Rattle.std.proofs.Common.{ap, false, length, sym, true, ◌++◌, ◌∙◌, ◌≡◌}
use Rattle.std.specs.Int.{w32}
use Rattle.std.specs.List.{flat_map}
use Rattle.zq_batch.specs.Spelling.{batch_bytes}
use Rattle.zq_delta.specs.Spelling.{op_spelling}
use Rattle.zq_delta.specs.declared.version.Version.TheVariants.{Two}
use Rattle.zq_fields.specs.Fields.{number_field}
use Rattle.zq_links.proofs.Batches.{count_is, pair_is}
use Rattle.zq_links.proofs.batch.recode.Goals as goal

pub returns-in_default-read_u32 : goal.returns-in_default-read_u32
returns-in_default-read_u32 c = λ ops ranged few is heaps heap are.
    (let some = (count_is c.in-Some.kind ops c.args.frame.now c.in-Some.rest.now few is c.in-Some.ensures.found).1 in
    let none = c.in_default-read_u32.ensures.exact in cc)

pub returns-then-branch : goal.returns-then-branch
returns-then-branch c = λ ops ranged few is.
    (let some = (count_is c.in-Some.kind ops c.args.frame.now c.in-Some.rest.now few is c.in-Some.ensures.found).1 in
    let same = pair_is c.in-Some-read_u32.count (length ops) c.in-Some-read_u32.spelled.now (flat_map (op_spelling Two) ops) (number_field w32 c.in-Some.rest.now) c.in-Some-read_u32.ensures.exact some in
    let holds : c.in_ok-append_recoded.field-0 ≡ true = cc in
    let t = c.in_ok-append_recoded.ensures.written holds ops ranged (sym same.0) same.1 in
    (t.0, t.1, t.2, t.3 ∙ ap (λ x. x ++ batch_bytes t.0 t.1 ops) c.in_ok-out.ensures.items))

pub returns-else-branch : goal.returns-else-branch
returns-else-branch c = λ ops ranged few is.
    (let some = (count_is c.in-Some.kind ops c.args.frame.now c.in-Some.rest.now few is c.in-Some.ensures.found).1 in
    let same = pair_is c.in-Some-read_u32.count (length ops) c.in-Some-read_u32.spelled.now (flat_map (op_spelling Two) ops) (number_field w32 c.in-Some.rest.now) c.in-Some-read_u32.ensures.exact some in
    let fails : c.in_ok-append_recoded.field-0 ≡ false = cc in
    c.in_ok-append_recoded.ensures.other fails ops ranged (sym same.0) same.1)
