use Rattle.std.proofs.Common.{[], ap, map, subst, sym, take, take_all, ◌+◌, ◌++◌, ◌∙◌, ◌∷◌, ◌≡◌}
use Rattle.zq_model.proofs.SparseEntries.{additions_back, entry_some}
use Rattle.zq_model.specs.Bounded.{IsBoundedAt}
use Rattle.zq_model.specs.Image.{Image, is_bare}
use Rattle.zq_model.specs.Rows.{AreInOrder, IsRow, additions_from, image_of_rows, row_of}
use Rattle.zq_model.specs.Sets.{IsIn, SITES}
use Rattle.zq_model.specs.Sparse.{AreBySite}
use Rattle.zq_shard.proofs.Rowed.{next_order, next_row, row_in}
use Rattle.zq_shard.specs.Listed.{given_row}
use Rattle.zq_shard.proofs.shard.Shard.of_rows.Goals as goal
use Rattle.zq_shard.proofs.shard.Shard.of_rows.Goals.{After-deref, After-deref-in-loop-row-2}

-- the row that comes
row_is : (c : After-deref) → IsRow (given_row c.row-item.result)
row_is c = c.requires.rows.each (given_row c.row-item.result) (row_in given_row c.args.rows.now c.loop-row.row-index c.row-item.result c.loop-row-test.true c.row-item.is)

-- what was made of its additions has them
additions_are : (c : After-deref-in-loop-row-2) → additions_from 0 c.in_ok-entry.entry ≡ c.row-item.result.additions.items
additions_are c = ap (additions_from 0) c.in_ok-entry.ensures ∙ additions_back c.deref.result.now (subst (λ items. AreBySite 0 SITES items) (sym c.deref.ensures.value)
    (c.requires.rows.each (given_row c.row-item.result) (row_in given_row c.args.rows.now c.loop-row.row-index c.row-item.result c.loop-row-test.true c.row-item.is)).by_site) ∙ c.deref.ensures.value

pub loop-row-init : goal.loop-row-init
loop-row-init c = record {
  heap = c.of_vector-shard.ensures.heap;
  heaps = c.of_vector-shard.ensures.heaps;
  rule = c.of_vector-shard.ensures.rule;
  image = c.of_vector-shard.ensures.image;
}

pub of_additions-requires : goal.of_additions-requires
of_additions-requires c = subst (λ items. AreBySite 0 SITES items) (sym c.deref.ensures.value) (row_is (goal.at.of_additions-requires c).After-deref).by_site

pub push_row-requires-clause-full : goal.push_row-requires-clause-full
push_row-requires-clause-full c =
    let is = c.requires.rows.each (given_row c.row-item.result) (row_in given_row c.args.rows.now c.loop-row.row-index c.row-item.result c.loop-row-test.true c.row-item.is) in
    ap is_bare c.in_ok-entry.ensures
    ∙ entry_some c.deref.result.now (subst (λ items. AreBySite 0 SITES items) (sym c.deref.ensures.value) is.by_site) (λ none. is.some (sym c.deref.ensures.value ∙ none))

pub push_row-requires-clause-bounded : goal.push_row-requires-clause-bounded
push_row-requires-clause-bounded c = λ s x here.
    let d = (goal.at.push_row-requires-clause-bounded c).After-deref-in-loop-row-2 in
    let inv = c.loop-row.invariant in
    let row = c.row-item.result in
    let given = row_in given_row c.args.rows.now c.loop-row.row-index row c.loop-row-test.true c.row-item.is in
    let bounded : IsBoundedAt c.args.heaps c.args.heap c.args.vector.now row.key.items row.member.items s x
    = c.requires.bounded (given_row row) given s x (subst (IsIn (s, x)) (additions_are d) here) in
    subst (λ K. IsBoundedAt K c.loop-row.shard.heap c.loop-row.shard.image.vector c.deref-in-loop-row.result.now c.deref-in-loop-row-2.result.now s x) (sym inv.heaps)
    (subst (λ h. IsBoundedAt c.args.heaps h c.loop-row.shard.image.vector c.deref-in-loop-row.result.now c.deref-in-loop-row-2.result.now s x) (sym inv.heap)
    (subst (λ (a : Image). IsBoundedAt c.args.heaps c.args.heap a.vector c.deref-in-loop-row.result.now c.deref-in-loop-row-2.result.now s x) (sym inv.image)
    (subst (λ k. IsBoundedAt c.args.heaps c.args.heap c.args.vector.now k c.deref-in-loop-row-2.result.now s x) (sym c.deref-in-loop-row.ensures.value)
    (subst (λ m. IsBoundedAt c.args.heaps c.args.heap c.args.vector.now row.key.items m s x) (sym c.deref-in-loop-row-2.ensures.value) bounded))))

pub loop-row-preserved : goal.loop-row-preserved
loop-row-preserved c =
    let d = (goal.at.loop-row-preserved c).After-deref-in-loop-row-2 in
    let inv = c.loop-row.invariant in
    let row = c.row-item.result in
    let i = c.loop-row.row-index in
    let before = map given_row (take i c.args.rows.now) in
    let vector : c.loop-row.shard.image.vector ≡ c.args.vector.now = ap (λ (a : Image). a.vector) inv.image in
    let pushed : row_of ((c.deref-in-loop-row.result.now, c.deref-in-loop-row-2.result.now), c.in_ok-entry.entry) ≡ given_row row
    = λ j. record { key = c.deref-in-loop-row.ensures.value j; member = c.deref-in-loop-row-2.ensures.value j; additions = additions_are d j } in
    let next : map given_row (take (i + 1) c.args.rows.now) ≡ before ++ row_of ((c.deref-in-loop-row.result.now, c.deref-in-loop-row-2.result.now), c.in_ok-entry.entry) ∷ []
    = next_row given_row c.args.rows.now i row c.loop-row-test.true c.row-item.is ∙ ap (λ r. before ++ r ∷ []) (sym pushed) in
    let order = subst AreInOrder next (next_order given_row c.args.rows.now (i + 1) c.requires.rows.in_order) in
    record {
      heap = c.in_ok-push_row.ensures.heap ∙ inv.heap;
      heaps = c.in_ok-push_row.ensures.heaps ∙ inv.heaps;
      rule = c.in_ok-push_row.ensures.rule ∙ inv.rule;
      image = c.in_ok-push_row.ensures.rows before (inv.image ∙ ap (λ v. image_of_rows v before) (sym vector)) order
          ∙ ap (λ v. image_of_rows v (before ++ row_of ((c.deref-in-loop-row.result.now, c.deref-in-loop-row-2.result.now), c.in_ok-entry.entry) ∷ [])) vector ∙ ap (image_of_rows c.args.vector.now) (sym next);
    }

pub returns-clause-heap : goal.returns-clause-heap
returns-clause-heap c = c.loop-row.invariant.heap

pub returns-clause-heaps : goal.returns-clause-heaps
returns-clause-heaps c = c.loop-row.invariant.heaps

pub returns-clause-rule : goal.returns-clause-rule
returns-clause-rule c = c.loop-row.invariant.rule

pub returns-clause-image : goal.returns-clause-image
returns-clause-image c =
    c.loop-row.invariant.image ∙ ap (λ rows. image_of_rows c.args.vector.now (map given_row rows)) (take_all c.loop-row.row-index c.args.rows.now c.loop-row-test.false)
