use Rattle.std.proofs.Common.{arith, get_or, length, sym, ◌∙◌}
use Rattle.std.proofs.lemmas.Option.{slice_get-get_or}
use Rattle.std.specs.Prelude.{Some, refl, slice_get, ℕ, ◌<◌, ◌≡◌}
use Rattle.zq_spread.proofs.Places.{all_changed, none_changed, not_yet, one_more_at}
use Rattle.zq_spread.proofs.building.deal_counts.Goals as goal
use Rattle.zq_spread.specs.SiteBuilders.{IsCounted}
use Rattle.zq_spread.specs.declared.pass.Pass.{Pass}

pub loop-pass-init : goal.loop-pass-init
loop-pass-init c = record {
  table = refl;
  total = refl;
  passes = refl;
  kept = omega arith;
  dealt = none_changed (IsCounted c.args.tally.now c.args.heap) c.args.passes.now;
}

pub index_mut-requires : goal.index_mut-requires
index_mut-requires c =
    let i : ℕ = c.loop-pass.pass-index in
    let low : i < length c.loop-pass.pass-items = omega arith in
    let pass : Pass = get_or c.loop-pass.pass-items i c.pass-item.result in
    let at : slice_get c.loop-pass.pass-items i ≡ Some pass = slice_get-get_or c.loop-pass.pass-items i c.pass-item.result low in
    let within = c.requires.places i pass (sym (not_yet (IsCounted c.args.tally.now c.args.heap) i c.args.passes.now c.loop-pass.pass-items c.loop-pass.invariant.dealt) ∙ at) in
    omega (arith, within, pass.counts.ok.0)

pub loop-pass-preserved : goal.loop-pass-preserved
loop-pass-preserved c =
    let i : ℕ = c.loop-pass.pass-index in
    let was = c.loop-pass.invariant in
    let low : i < length c.loop-pass.pass-items = omega arith in
    let pass : Pass = get_or c.loop-pass.pass-items i c.pass-item.result in
    let at : slice_get c.loop-pass.pass-items i ≡ Some pass = slice_get-get_or c.loop-pass.pass-items i c.pass-item.result low in
    record {
      table = c.add_pass.ensures.stays.0 ∙ was.table;
      total = c.add_pass.ensures.stays.1 ∙ was.total;
      passes = c.add_pass.ensures.stays.2 ∙ was.passes;
      kept = omega (arith, c.add_pass.ensures.kept, was.kept);
      dealt = one_more_at (IsCounted c.args.tally.now c.args.heap) i c.args.passes.now c.loop-pass.pass-items pass _ was.dealt at (record {
        seats = refl;
        stamp = refl;
        count = c.add_pass.result;
        counts = refl;
        table = c.add_pass.ensures.table;
        none = c.add_pass.ensures.none;
      });
    }

pub returns-clause-dealt : goal.returns-clause-dealt
returns-clause-dealt c =
    all_changed (IsCounted c.args.tally.now c.args.heap) c.loop-pass.pass-index c.args.passes.now c.loop-pass.pass-items (omega arith) c.loop-pass.invariant.dealt
