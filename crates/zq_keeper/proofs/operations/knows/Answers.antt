use Rattle.std.proofs.Common.{arith, get_or, sym, ◌∙◌, ◌≡◌, ◌≤◌, subst}
use Rattle.std.specs.Cmp.Lexicographic.{same_text}
use Rattle.zq_model.proofs.Taken.{covers_from}
use Rattle.zq_keeper.proofs.operations.knows.Goals as goal

pub returns-then-eq : goal.returns-then-eq
returns-then-eq c =
    let same : c.args.vector.now ≡ c.args.seen.now = same_text c.args.vector.now c.args.seen.now c.if-eq.ensures in
    let all = covers_from c.args.vector.now c.args.seen.now (λ t below. subst (λ v. get_or v t 0 ≤ get_or c.args.vector.now t 0) same (omega arith)) in
    c.if-eq.true ∙ sym all
