use Rattle.std.proofs.Common.{refl, ◌∙◌}
use Rattle.zq_queue.proofs.Built.{all_built, each, first_begins, first_row, not_yet, one_more, row_there}
use Rattle.zq_queue.specs.Built.{of_first}
use Rattle.zq_queue.proofs.merges.join_first.Goals as goal

pub loop-member-init : goal.loop-member-init
loop-member-init c = record {
  rule = refl;
  built = first_begins c.args.members.now.entries c.args.mine.now c.args.theirs.now c.args.other.now.entries _ c.iter-member-items.ensures.lists c.args.merged.now.entries c.requires.empty _
      c.into_iter-member-iterator.ensures.into_iter_gives;
}

pub add-requires : goal.add-requires
add-requires c =
    let held = c.args.members.now.entries in
    not_yet held each (of_first held c.args.mine.now c.args.theirs.now c.args.other.now.entries) _ _ _ c.in-Some.ensures.steps c.loop-member.merged.entries c.loop-member.invariant.built refl

pub loop-member-preserved : goal.loop-member-preserved
loop-member-preserved c =
    let held = c.args.members.now.entries in
    let f = of_first held c.args.mine.now c.args.theirs.now c.args.other.now.entries in
    let there = row_there held each f _ _ _ c.in-Some.ensures.steps c.loop-member.merged.entries c.loop-member.invariant.built in
    let e = c.in_ok-joined.joined in
    record {
      rule = c.in_ok-add.ensures.rule ∙ c.loop-member.invariant.rule;
      built = one_more held each f _ _ _ c.in-Some.ensures.steps c.loop-member.merged.entries c.loop-member.invariant.built
          e refl (first_row held c.args.mine.now c.args.theirs.now c.args.other.now.entries _ there e c.in_ok-joined.ensures) c.add.new.self.entries c.in_ok-add.ensures.added;
    }

pub returns-clause-joined : goal.returns-clause-joined
returns-clause-joined c =
    let held = c.args.members.now.entries in
    let f = of_first held c.args.mine.now c.args.theirs.now c.args.other.now.entries in
    all_built held each f _ c.loop-member.merged.entries c.in-None.ensures.steps.0 c.loop-member.invariant.built
