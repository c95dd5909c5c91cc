use Rattle.std.proofs.Common.{ap, refl, ◌∙◌}
use Rattle.std.specs.FinMap.{get}
use Rattle.std.specs.Prelude.{map, ◌++◌}
use Rattle.zq_queue.proofs.Built.{all_built, copied_row, copy_begins, each, not_yet, one_more, row_there}
use Rattle.zq_model.specs.Image.{is_bare}
use Rattle.zq_queue.proofs.Helds.{same_at_each}
use Rattle.zq_queue.proofs.Placed.{name_added, next_name, no_name_left}
use Rattle.zq_queue.proofs.copies.add_copies.Goals as goal

pub loop-member-init : goal.loop-member-init
loop-member-init c = record {
  rule = refl;
  places = ap (λ ps. ps ++ map (λ row. row.1) c.into_iter-member-iterator.result) c.requires.no_places ∙ ap (map (λ row. row.1)) c.into_iter-member-iterator.ensures.into_iter_gives
      ∙ c.iter-member-items.ensures.places;
  built = copy_begins c.args.members.now.entries _ c.iter-member-items.ensures.lists c.args.copied.now.entries c.requires.empty _ c.into_iter-member-iterator.ensures.into_iter_gives;
}

pub add-requires : goal.add-requires
add-requires c =
    let held = c.args.members.now.entries in
    not_yet held each (get held) _ _ _ c.in-Some.ensures.steps c.loop-member.copied.entries c.loop-member.invariant.built refl

pub loop-member-preserved : goal.loop-member-preserved
loop-member-preserved c =
    let held = c.args.members.now.entries in
    let there = row_there held each (get held) _ _ _ c.in-Some.ensures.steps c.loop-member.copied.entries c.loop-member.invariant.built in
    record {
      rule = c.in_ok-add.ensures.rule ∙ c.loop-member.invariant.rule;
      places = next_name c.loop-member.copied.places c.add.new.self.places (map (λ row. row.1) c.loop-member.member-iterator) (map (λ row. row.1) c.next.new.self)
          c.args.members.now.places _
          (name_added c.in_ok-copy.field-0 c.loop-member.copied.places c.add.new.self.places _ (ap is_bare c.in_ok-copy.ensures ∙ c.requires.bare _ _ there) c.in_ok-add.ensures.places)
          (ap (map (λ row. row.1)) c.in-Some.ensures.steps) c.loop-member.invariant.places;
      built = one_more held each (get held) _ _ _ c.in-Some.ensures.steps c.loop-member.copied.entries c.loop-member.invariant.built
          c.in_ok-copy.field-0 refl (copied_row held _ c.requires.bare there c.in_ok-copy.field-0 c.in_ok-copy.ensures) c.add.new.self.entries c.in_ok-add.ensures.added;
    }

pub returns-clause-entries : goal.returns-clause-entries
returns-clause-entries c =
    let held = c.args.members.now.entries in
    same_at_each c.loop-member.copied.entries held (all_built held each (get held) _ c.loop-member.copied.entries c.in-None.ensures.steps.0 c.loop-member.invariant.built)

pub returns-clause-places : goal.returns-clause-places
returns-clause-places c =
    no_name_left c.loop-member.copied.places (map (λ row. row.1) c.loop-member.member-iterator) c.args.members.now.places (ap (map (λ row. row.1)) c.in-None.ensures.steps.0)
    c.loop-member.invariant.places
