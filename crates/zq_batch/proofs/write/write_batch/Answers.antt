use Rattle.std.proofs.Common.{false, subst, sym, ◌∙◌, ◌≡◌}
use Rattle.zq_batch.specs.Batch.{AreBatch}
use Rattle.zq_batch.proofs.write.write_batch.Goals as goal

pub returns : goal.returns
returns c = λ heaps heap are.
    (let fails : c.in_ok-append_views.field-0 ≡ false = cc in
    c.in_ok-append_views.ensures.other fails heaps heap (subst (AreBatch heaps heap) (sym (c.deref.ensures.value ∙ c.in_ok-views.ensures)) are))
