use Rattle.std.proofs.Common.{refl, rules}
use Rattle.zq_node.proofs.Ready.{first_near, of_first, none_near, ready_near}
use Rattle.zq_node.specs.Parked.{place_cmp}
use Rattle.std.specs.BTreeMap.Range.{IsLeBy}
use Rattle.zq_node.proofs.parked.ready_of.Goals as goal

pub returns-in-None-clause-none : goal.returns-in-None-clause-none
returns-in-None-clause-none c =
    none_near c.args.ops.now.entries c.args.vector.now c.args.heap c.args.number c.get-known.result c.requires.placed (search rules) ((c.range.ensures.in_range tt).5 c.in-None.ensures.steps.0)

pub returns-then-is_early-clause-none : goal.returns-then-is_early-clause-none
returns-then-is_early-clause-none c =
    let range = c.range.ensures.in_range tt in
    let steps = c.in-Some.ensures.steps in
    let entry = of_first _ _ _ _ steps range.1 in
    first_near c.args.ops.now.entries c.args.vector.now c.args.heap c.args.number c.get-known.result c.in-Some.place.now c.in-Some.op.now c.requires.placed (search rules) entry.0 entry.1 (λ q near some. of_first (λ e. IsLeBy place_cmp e.0 q) _ _ _ steps (range.2 q near some)) (c.if-is_early.ensures.early refl)

pub returns-else-is_early-clause-ready : goal.returns-else-is_early-clause-ready
returns-else-is_early-clause-ready c =
    let range = c.range.ensures.in_range tt in
    let entry = of_first _ _ _ _ c.in-Some.ensures.steps range.1 in
    ready_near c.args.ops.now.entries c.args.vector.now c.args.heap c.args.number c.get-known.result c.in-Some.place.now c.in-Some.op.now c.requires.placed entry.0 entry.1 (c.if-is_early.ensures.ready refl)
