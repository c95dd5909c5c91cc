use Rattle.std.proofs.Common.{ap, subst, sym, to_z, ◌∙◌, ◌≡◌, ℤ}
use Rattle.std.proofs.lemmas.Int.{to_z-of_z}
use Rattle.std.specs.FinMap.{remove}
use Rattle.std.specs.Int.{w128}
use Rattle.std.specs.Prelude.{Some}
use Rattle.zq_queue.proofs.Indexes.{got_removed, inserted_again, inserted_same}
use Rattle.zq_queue.specs.Indexed.{IsIndexOf}
use Rattle.zq_queue.proofs.index.with_moved.Goals as goal

pub returns-then-before-score : goal.returns-then-before-score
returns-then-before-score c = λ scores some order.
    let same : c.args.before ≡ c.args.score = sym (to_z-of_z w128 c.args.before c.ranges.before) ∙ ap (to_z w128) c.if-before-score.true ∙ to_z-of_z w128 c.args.score c.ranges.score in
    subst (λ s. IsIndexOf s c.args.index) (sym (inserted_same scores c.args.member.now c.args.score (some ∙ ap (λ (x : ℤ). Some x) same))) order

pub returns : goal.returns
returns c = λ scores some order.
    let m = c.args.member.now in
    let without = rw (to_z-of_z w128 c.args.before c.ranges.before) at c.without_pair.ensures in
    let with = rw (to_z-of_z w128 c.args.score c.ranges.score) at c.with_pair.ensures in
    subst (λ s. IsIndexOf s c.with_pair.result) (inserted_again scores m c.args.score)
    (with (remove scores m) (got_removed scores m c.args.score) (without scores some order))
