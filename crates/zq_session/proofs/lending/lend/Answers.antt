use Rattle.std.proofs.Common.{ap, arith, length, refl, ◌+◌, ◌≡◌}
use Rattle.zq_session.proofs.MadeAndLent.{lent_by}
use Rattle.zq_session.proofs.lending.lend.Goals as goal

pub returns : goal.returns
returns c = λ plan made.
    let old = c.args.made.now in
    let all : length c.replace-passes.result.items ≡ length old.passes.items = ap (λ v. length v.items) c.replace-passes.ensures.value in
    let some : length old.passes.items ≡ plan.servers + 2 = made.2.passes_are in
    lent_by plan old _ (length c.last_of-other.new.passes.items) made refl (omega (arith, all, some, c.last_of-spare.ensures.fewer, c.last_of-other.ensures.fewer)) c.in_ok-passes.ensures
    (c.last_of-spare.ensures.spare (omega (arith, all, some)))
    (c.last_of-other.ensures.spare (omega (arith, all, some, c.last_of-spare.ensures.fewer)))
