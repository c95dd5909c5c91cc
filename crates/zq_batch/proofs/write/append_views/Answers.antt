use Rattle.std.proofs.Common.{ap, arith, length, refl, take, ◌∙◌, ◌≡◌, true}
use Rattle.std.proofs.lemmas.List.{take_at}
use Rattle.zq_batch.proofs.Batches.{batch_written}
use Rattle.zq_fields.proofs.Written.{kept_more}
use Rattle.zq_batch.proofs.write.append_views.Goals as goal

pub returns-clause-written : goal.returns-clause-written
returns-clause-written c =
    let rest = c.in-Some.ensures.cases.1 in
    let holds : c.are_of.result ≡ true = cc in
    batch_written c.write_each.result c.args.out.now.items c.write_bytes.new.out.items c.write_varint.new.out.items c.write_each.new.out.items c.args.views.now c.heap-heap.result c.in_ok-write_bytes.ensures.written c.in_ok-write_varint.ensures.written c.write_each.ensures.written c.write_each.ensures.next (omega arith) (omega arith) (c.are_of.ensures.all holds)

pub returns-clause-kept : goal.returns-clause-kept
returns-clause-kept c =
    let start = c.args.out.now.items in
    let head = c.write_bytes.new.out.items in
    let count = c.write_varint.new.out.items in
    let first : take (length start) head ≡ start = ap (take (length start)) c.in_ok-write_bytes.ensures.written ∙ take_at start _ (length start) refl in
    kept_more start count c.write_each.new.out.items (kept_more start head count first c.write_varint.ensures.kept) c.write_each.ensures.kept
