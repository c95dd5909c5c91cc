use Rattle.std.proofs.Common.{arith, refl}
use Rattle.std.proofs.lemmas.Option.{slice_get_within}
use Rattle.zq_recovery.proofs.Stepping.{other_at, whole_at}
use Rattle.zq_recovery.proofs.heap.judge_sealed.Goals as goal

pub returns-then-place-stages-clause-whole : goal.returns-then-place-stages-clause-whole
returns-then-place-stages-clause-whole c =
    whole_at c.judge_stage.result c.args.whole.now c.args.stages.now c.args.whole.now.heap.heap
    c.index-stages-place.result refl c.if-place-stages.true c.index-stages-place.is
    c.judge_stage.ensures.heaps c.judge_stage.ensures.whole c.judge_stage.ensures.vector

pub returns-then-place-stages-clause-other : goal.returns-then-place-stages-clause-other
returns-then-place-stages-clause-other c =
    other_at c.judge_stage.result c.args.whole.now c.args.stages.now c.args.whole.now.heap.heap
    c.index-stages-place.result refl c.if-place-stages.true c.index-stages-place.is
    c.judge_stage.ensures.other

pub returns-else-place-stages-clause-other : goal.returns-else-place-stages-clause-other
returns-else-place-stages-clause-other c = λ is.
    (let within = slice_get_within c.args.stages.now c.args.whole.now.heap.heap is.stage is.there in
    let past = c.if-place-stages.false in
    absurd (omega (arith, within, past)))
