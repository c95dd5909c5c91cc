use Rattle.std.proofs.Common.{ap, Err, inl, inr, Ok, sym, ◌∙◌}
use Rattle.std.proofs.lemmas.Result.{err_from_is_err_and}
use Rattle.zq_batch.proofs.Batches.{batch_found, each_fault, front_fails, front_there, whole_is}
use Rattle.zq_batch.specs.Reading.{end_at}
use Rattle.zq_batch.proofs.read.read_whole.Goals as goal

pub returns-in_err-heap-clause-exact : goal.returns-in_err-heap-clause-exact
returns-in_err-heap-clause-exact c =
    let p = err_from_is_err_and c.from_residual.result c.from_residual.ensures.1 in
    rw p.1 (inr (front_fails c.args.bytes.now c.in_err-heap.field-0.0 c.in_err-heap.ensures.exact ∙ ap Err (sym p.2)))

pub returns-in_err-views-clause-exact : goal.returns-in_err-views-clause-exact
returns-in_err-views-clause-exact c =
    let p = err_from_is_err_and c.from_residual-in_err-views.result c.from_residual-in_err-views.ensures.1 in
    rw p.1 (elim c.in_err-views.ensures.exact [
      | inl none ↦ inl (p.2 ∙ none, front_there c.args.bytes.now c.read_front.new.bytes.now c.in_ok-heap.heap c.in_ok-heap.count c.in_ok-heap.ensures.exact)
      | inr e ↦ inr (each_fault c.args.bytes.now c.read_front.new.bytes.now c.in_ok-heap.heap c.in_ok-heap.count e.0 c.in_ok-heap.ensures.exact e.1 ∙ ap Err (sym (p.2 ∙ e.2)))
    ])

pub returns-in_err-read_end-clause-exact : goal.returns-in_err-read_end-clause-exact
returns-in_err-read_end-clause-exact c =
    let p = err_from_is_err_and c.from_residual-in_err-read_end.result c.from_residual-in_err-read_end.ensures.1 in
    rw p.1 (inr (whole_is c.args.bytes.now c.read_front.new.bytes.now c.read_views.new.bytes.now c.in_ok-heap.heap c.in_ok-heap.count c.in_ok-views.views.items c.in_ok-heap.ensures.exact c.in_ok-views.ensures.exact ∙ (c.in_err-read_end.ensures.more c.in_ok-views.views.items ∙ ap Err (sym p.2))))

pub returns-clause-exact : goal.returns-clause-exact
returns-clause-exact c =
    whole_is c.args.bytes.now c.read_front.new.bytes.now c.read_views.new.bytes.now c.in_ok-heap.heap c.in_ok-heap.count c.in_ok-views.views.items c.in_ok-heap.ensures.exact c.in_ok-views.ensures.exact
    ∙ (ap (λ b. end_at (c.in_ok-views.views.items, b)) c.in_ok-read_end.ensures.end ∙ ap Ok (sym (c.in_ok-ops.ensures ∙ c.deref.ensures.value)))

pub returns-clause-found : goal.returns-clause-found
returns-clause-found c =
    let first = c.in_ok-heap.ensures in
    let views = c.in_ok-views.ensures in
    batch_found c.in_ok-heap.heap c.in_ok-heap.count c.in_ok-ops.ops.items c.in_ok-views.views.items c.args.bytes.now c.read_front.new.bytes.now c.read_views.new.bytes.now first.found views.found c.in_ok-read_end.ensures.end views.count first.some first.few views.next views.of_heap (c.in_ok-ops.ensures ∙ c.deref.ensures.value)
