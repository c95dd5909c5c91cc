use Rattle.std.proofs.Common.{ap, length, refl, take, ◌∙◌, ◌≡◌}
use Rattle.std.proofs.lemmas.List.{take_at}
use Rattle.zq_fields.proofs.Written.{kept_more}
use Rattle.zq_delta.proofs.write.append.Goals as goal

pub returns-clause-kept : goal.returns-clause-kept
returns-clause-kept c =
    let start = c.args.out.now.items in
    let head = c.write_bytes.new.out.items in
    let vector = c.write_sparse.new.out.items in
    let act = c.write_act.new.out.items in
    let key = c.write_text.new.out.items in
    let member = c.write_text-2.new.out.items in
    let first : take (length start) head ≡ start = ap (take (length start)) c.in_ok-write_bytes.ensures.written ∙ take_at start _ (length start) refl in
    kept_more start key member (kept_more start act key (kept_more start vector act (kept_more start head vector first c.write_sparse.ensures.kept) c.write_act.ensures.kept) c.write_text.ensures.kept) c.write_text-2.ensures.kept
