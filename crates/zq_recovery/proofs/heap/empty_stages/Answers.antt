use Rattle.std.proofs.Common.{ap, length, subst, sym, ◌+◌, ◌∙◌}
use Rattle.std.proofs.lemmas.List.{length_push}
use Rattle.zq_recovery.proofs.Stepping.{empty_next}
use Rattle.zq_recovery.specs.Opening.{AreEmpty, empty_stage}
use Rattle.zq_recovery.proofs.heap.empty_stages.Goals as goal

pub loop-heap-preserved : goal.loop-heap-preserved
loop-heap-preserved c =
    let i = c.args.identity.now in
    let stages = c.loop-heap.stages.items in
    let next = c.empty.result in
    let items = c.in_ok-push.ensures.items in
    record {
      number = ap length items ∙ (length_push stages next ∙ ap (λ n. n + 1) c.loop-heap.invariant.number);
      empty = subst (AreEmpty i) (sym items) (empty_next i stages next c.loop-heap.invariant.empty
          (c.empty.ensures ∙ ap (empty_stage i) (sym c.loop-heap.invariant.number)));
    }
