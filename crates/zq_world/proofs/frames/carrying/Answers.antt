use Rattle.std.proofs.Common.{ap, subst, sym, ◌∙◌}
use Rattle.std.proofs.lemmas.List.{append-nil}
use Rattle.std.specs.Prelude.{[], ◌<◌}
use Rattle.zq_delta.proofs.Again.{found_again}
use Rattle.zq_delta.specs.Reading.{found_at}
use Rattle.zq_delta.specs.Spelling.{op_spelling}
use Rattle.zq_delta.specs.declared.version.Version.TheVariants as delta
use Rattle.zq_merge.proofs.AgainStates.{state_again}
use Rattle.zq_merge.specs.declared.version.Version.TheVariants as merge
use Rattle.zq_model.proofs.BoundedImages.{bounded_set}
use Rattle.zq_semantics.proofs.KeptRuns.{heap_below_key, kept_always, within_at, world_at}
use Rattle.zq_semantics.specs.Events.{set_at}
use Rattle.zq_semantics.specs.Runs.{run}
use Rattle.zq_dots.specs.Placed.{IsRanged}
use Rattle.zq_world.specs.Frames.{heap_at, placed}
use Rattle.zq_world.proofs.FewRows.{few_rows}
use Rattle.zq_world.proofs.frames.carrying.Goals as goal

pub returns-clause-operations : goal.returns-clause-operations
returns-clause-operations c rule K sites events is o i =
    let kept = kept_always rule K sites events is in
    let its = kept.world.each o i in
    let short = kept.short o i in
    let ranged : IsRanged (placed K o) = record {
      heaps = is.heaps;
      heap = subst (λ h. h < K) (sym its.heap) (heap_below_key K is.heaps o.key o.member);
      site = its.site;
      seen = its.seen;
      next = its.next;
      bounded = its.bounded;
      key = short.key;
      member = short.member;
      act = its.act;
    } in
    ap found_at (sym (append-nil (op_spelling delta.Two (placed K o)))) ∙ found_again delta.Two (placed K o) [] ranged (its.site, tt)

pub returns-clause-images : goal.returns-clause-images
returns-clause-images c rule K sites events is moment site heap below =
    let kept = kept_always rule K sites events is in
    let S = set_at (run rule K events) moment site in
    state_again merge.Three (heap_at rule K S heap) (record {
      kept = record { heaps = is.heaps; heap = below; bounded = bounded_set K S heap (world_at rule K sites events is moment site) (λ o i. kept.short o (within_at rule K sites events is moment site o i)) };
      few = few_rows K S heap (world_at rule K sites events is moment site);
    }) (tt, tt)
