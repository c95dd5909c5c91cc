use Rattle.std.proofs.Common.{ap, refl, sym, ◌∙◌}
use Rattle.std.specs.FinMap.{get}
use Rattle.std.specs.Prelude.{None, false, is_some, not, true, ◌≡◌}
use Rattle.zq_queue.proofs.Built.{all_built, found_nothing, found_some, not_yet, one_more, passed_over, row_there, second_begins, second_row}
use Rattle.zq_queue.specs.Built.{only_second}
use Rattle.zq_queue.specs.Entries.{entry_joined}
use Rattle.zq_queue.proofs.merges.join_second.Goals as goal

pub loop-member-init : goal.loop-member-init
loop-member-init c = record {
  rule = refl;
  built = second_begins c.args.members.now.entries c.args.mine.now c.args.theirs.now c.args.first.now.entries _ c.iter-member-items.ensures.lists c.args.merged.now.entries c.requires.joined _
      c.into_iter-member-iterator.ensures.into_iter_gives;
}

pub add-requires : goal.add-requires
add-requires c =
    let held = c.args.members.now.entries in
    let first = c.args.first.now.entries in
    let f = entry_joined c.args.mine.now c.args.theirs.now first held in
    let none : is_some c.entry.result ≡ false = c.is_none.ensures ∙ ap not c.if-is_none.true in
    let absent : get first c.in-Some.member.now ≡ None = sym c.entry.ensures.entry ∙ found_nothing (λ e. e.now) c.entry.result none in
    not_yet held (only_second first) f _ _ _ c.in-Some.ensures.steps c.loop-member.merged.entries c.loop-member.invariant.built (ap (λ o. not (is_some o)) absent)

pub loop-member-preserved-in-Continue-branch-2 : goal.loop-member-preserved-in-Continue-branch-2
loop-member-preserved-in-Continue-branch-2 c =
    let held = c.args.members.now.entries in
    let first = c.args.first.now.entries in
    let f = entry_joined c.args.mine.now c.args.theirs.now first held in
    let none : is_some c.entry.result ≡ false = c.is_none.ensures ∙ ap not c.if-is_none.true in
    let absent : get first c.in-Some.member.now ≡ None = sym c.entry.ensures.entry ∙ found_nothing (λ e. e.now) c.entry.result none in
    let there = row_there held (only_second first) f _ _ _ c.in-Some.ensures.steps c.loop-member.merged.entries c.loop-member.invariant.built in
    let e = c.in_ok-joined.joined in
    record {
      rule = c.in_ok-add.ensures.rule ∙ c.loop-member.invariant.rule;
      built = one_more held (only_second first) f _ _ _ c.in-Some.ensures.steps c.loop-member.merged.entries c.loop-member.invariant.built
          e (ap (λ o. not (is_some o)) absent) (second_row held c.args.mine.now c.args.theirs.now first _ there absent e c.in_ok-joined.ensures) c.add.new.self.entries c.in_ok-add.ensures.added;
    }

pub loop-member-preserved : goal.loop-member-preserved
loop-member-preserved c =
    let held = c.args.members.now.entries in
    let first = c.args.first.now.entries in
    let f = entry_joined c.args.mine.now c.args.theirs.now first held in
    let some : is_some c.entry.result ≡ true = c.is_none.ensures ∙ ap not c.if-is_none.false in
    let stands : is_some (get first c.in-Some.member.now) ≡ true = ap is_some (sym c.entry.ensures.entry) ∙ found_some (λ e. e.now) c.entry.result some in
    record {
      rule = c.loop-member.invariant.rule;
      built = passed_over held (only_second first) f _ _ _ c.in-Some.ensures.steps c.loop-member.merged.entries c.loop-member.invariant.built (ap not stands);
    }

pub returns-clause-joined : goal.returns-clause-joined
returns-clause-joined c =
    let held = c.args.members.now.entries in
    let f = entry_joined c.args.mine.now c.args.theirs.now c.args.first.now.entries held in
    all_built held (only_second c.args.first.now.entries) f _ c.loop-member.merged.entries c.in-None.ensures.steps.0 c.loop-member.invariant.built
