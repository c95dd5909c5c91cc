use Rattle.std.proofs.Common.{Some, [], ap, map, sym, take, ◌+◌, ◌++◌, ◌∙◌, ◌∷◌, ◌≡◌}
use Rattle.std.specs.FinMap.{get}
use Rattle.std.specs.Prelude.{option_map}
use Rattle.zq_model.specs.Image.{Image}
use Rattle.zq_model.specs.Rows.{entry_with, place_in, rows_of}
use Rattle.zq_model.specs.Sets.{IsIn}
use Rattle.zq_queue.proofs.Changing.{on_any_err}
use Rattle.zq_shard.proofs.Rowed.{next_row, row_in}
use Rattle.zq_shard.specs.Listed.{lent_row}
use Rattle.zq_shard.specs.Shard.{HeapImage, with_entry}
use Rattle.zq_stage.proofs.Replaced.{entry_bounded, entry_is, map_take, stands, with_rows-last}
use Rattle.zq_stage.specs.Rows.{with_rows}
use Rattle.zq_stage.proofs.replacing.replace.Goals as goal
use Rattle.zq_stage.proofs.replacing.replace.Goals.{In_ok-copy, Joined-entry, in-Some+in_ok-copy+in_ok-push_row, in_default}

pub returns-in_err-copy-clause-first : goal.returns-in_err-copy-clause-first
returns-in_err-copy-clause-first c =
    on_any_err c.from_residual.result
    (c.loop-row.row-index, c.loop-row.invariant.image ∙ ap (λ rows. with_rows rows c.args.shard.now.image) (map_take lent_row c.loop-row.row-index c.args.rows.now))

pub push_row-requires-clause-bounded : goal.push_row-requires-clause-bounded
push_row-requires-clause-bounded c =
    let d = (goal.at.push_row-requires-clause-bounded c).In_ok-copy in
    let inv = c.loop-row.invariant in
    let row = c.row-item.result in
    let among : IsIn (lent_row row) (rows_of c.args.piece.now.image) = c.requires.among (lent_row row) (row_in lent_row c.args.rows.now c.loop-row.row-index row c.loop-row-test.true c.row-item.is) in
    let got : get c.args.piece.now.image.members (row.key.now, row.member.now) ≡ Some c.in_ok-copy.field-0
    = sym c.entry.ensures ∙ ap (option_map (λ entry. entry.now)) c.in-Some.is ∙ ap (λ e. Some e) (sym c.in_ok-copy.ensures) in
    entry_bounded c.args.piece.now c.requires.kept (lent_row row) among c.loop-row.shard c.in_ok-copy.field-0
    (record { heap = inv.heap ∙ c.requires.one.heap; heaps = inv.heaps ∙ c.requires.one.heaps }) (inv.vector ∙ c.requires.vector) got

pub returns-in_err-push_row-clause-first : goal.returns-in_err-push_row-clause-first
returns-in_err-push_row-clause-first c =
    on_any_err c.from_residual-in_err-push_row.result (
      c.loop-row.row-index,
      ap (λ (t : HeapImage). t.image) c.in_err-push_row.ensures.refused ∙ c.loop-row.invariant.image ∙ ap (λ rows. with_rows rows c.args.shard.now.image) (map_take lent_row c.loop-row.row-index c.args.rows.now),
    )

pub loop-row-preserved : goal.loop-row-preserved
loop-row-preserved c =
    let inv = c.loop-row.invariant in
    let row = c.row-item.result in
    let before = map lent_row (take c.loop-row.row-index c.args.rows.now) in
    let among : IsIn (lent_row row) (rows_of c.args.piece.now.image) = c.requires.among (lent_row row) (row_in lent_row c.args.rows.now c.loop-row.row-index row c.loop-row-test.true c.row-item.is) in
    let next : map lent_row (take (c.loop-row.row-index + 1) c.args.rows.now) ≡ before ++ lent_row row ∷ [] = next_row lent_row c.args.rows.now c.loop-row.row-index row c.loop-row-test.true c.row-item.is in
    elim c.match-entry.branch [
      | in-Some+in_ok-copy+in_ok-push_row w ↦
          let got : get c.args.piece.now.image.members (row.key.now, row.member.now) ≡ Some w.in_ok-copy.field-0
          = sym c.entry.ensures ∙ ap (option_map (λ entry. entry.now)) w.in-Some.is ∙ ap (λ e. Some e) (sym w.in_ok-copy.ensures) in
          let entry : w.in_ok-copy.field-0 ≡ entry_with (lent_row row).additions = entry_is c.args.piece.now c.requires.kept (lent_row row) among w.in_ok-copy.field-0 got in
          record {
            heap = ap (λ (t : HeapImage). t.heap) w.shard-is ∙ w.in_ok-push_row.ensures.heap ∙ inv.heap;
            heaps = ap (λ (t : HeapImage). t.heaps) w.shard-is ∙ w.in_ok-push_row.ensures.heaps ∙ inv.heaps;
            rule = ap (λ (t : HeapImage). t.rule) w.shard-is ∙ w.in_ok-push_row.ensures.rule ∙ inv.rule;
            vector = ap (λ (t : HeapImage). t.image.vector) w.shard-is ∙ ap (λ (a : Image). a.vector) w.in_ok-push_row.ensures.image ∙ inv.vector;
            image = ap (λ (t : HeapImage). t.image) w.shard-is ∙ w.in_ok-push_row.ensures.image
                ∙ (λ j. with_entry (place_in (lent_row row)) (entry j) (inv.image j))
                ∙ sym (with_rows-last before (lent_row row) c.args.shard.now.image)
                ∙ ap (λ rows. with_rows rows c.args.shard.now.image) (sym next);
          }
      | in_default w ↦ absurd (stands c.args.piece.now c.requires.kept (lent_row row) among (sym c.entry.ensures ∙ ap (option_map (λ entry. entry.now)) w.in_default.is))
    ]
