use Rattle.std.proofs.Common.{ap, ◌∙◌}
use Rattle.std.specs.Int.{w64}
use Rattle.std.specs.Prelude.{int_lt}
use mir.Val.{of_z}
use Rattle.zq_posheap.proofs.Nearest.{near_again, slots_tell}
use Rattle.zq_posheap.proofs.Told.{known_within}
use Rattle.zq_posheap.proofs.heap.Heap.is_before.Goals as goal

pub returns-then-x-y : goal.returns-then-x-y
returns-then-x-y g c =
    let heap = c.args.self.now in
    let x = near_again heap c.args.x c.requires.x_known in
    let y = near_again heap c.args.y c.requires.y_known in
    (λ k. int_lt (x k) (y k)) ∙ slots_tell heap c.args.x c.args.y c.requires.x_known c.requires.y_known (λ same. c.if-x-y.true (ap (of_z w64) same))

pub compare-requires-clause-x_within : goal.compare-requires-clause-x_within
compare-requires-clause-x_within g c = known_within c.args.self.now c.args.x c.requires.x_known

pub compare-requires-clause-y_within : goal.compare-requires-clause-y_within
compare-requires-clause-y_within g c = known_within c.args.self.now c.args.y c.requires.y_known
