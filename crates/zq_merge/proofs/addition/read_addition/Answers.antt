use Rattle.std.proofs.Common.{rules, ◌≤◌}
use Rattle.std.specs.Prelude.{slice_index}
use Rattle.zq_merge.proofs.AdditionLists.{addition_bounded}
use Rattle.zq_model.specs.Operation.{IsWithin, MOST}
use Rattle.zq_merge.proofs.addition.read_addition.Goals as goal

pub returns-clause-bounded : goal.returns-clause-bounded
returns-clause-bounded c =
    let score : IsWithin MOST c.in_ok-score.score = search rules in
    let known : c.in_ok-n.n ≤ slice_index c.args.vector.now c.in_ok-site.site = search rules in
    rw c.of.ensures.parts (addition_bounded c.args.vector.now c.in_ok-site.site c.in_ok-n.n c.in_ok-score.score c.in_ok-sums.sums.items c.in_ok-n.ensures.low known score c.in_ok-sums.ensures.within)
