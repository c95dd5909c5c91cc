use Rattle.std.proofs.Common.{take_all, ◌∙◌, ◌≡◌}
use Rattle.zq_entry.proofs.entry.Entry.of_additions.Goals as goal

pub invariant_of-result : goal.invariant_of-result
invariant_of-result c =
    let whole : c.loop-addition.copies ≡ c.args.additions.now = c.loop-addition.invariant ∙ take_all c.loop-addition.addition-index c.args.additions.now c.loop-addition-test.false in
    rw whole c.requires
