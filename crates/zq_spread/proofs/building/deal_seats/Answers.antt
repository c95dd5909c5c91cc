use Rattle.std.proofs.Common.{arith, get_or, length, sym, ◌∙◌}
use Rattle.std.proofs.lemmas.Option.{slice_get-get_or}
use Rattle.std.specs.Prelude.{Some, refl, slice_get, ℕ, ◌<◌, ◌≡◌}
use Rattle.zq_spread.proofs.Places.{all_changed, none_changed, not_yet, one_more_at}
use Rattle.zq_spread.proofs.building.deal_seats.Goals as goal
use Rattle.zq_spread.specs.SiteBuilders.{IsSeated}
use Rattle.zq_spread.specs.declared.pass.Pass.{Pass}
use Rattle.zq_ticketlock.specs.Seats.{seen}

pub loop-pass-init : goal.loop-pass-init
loop-pass-init c = record {
  lock_is = c.requires.lock;
  seen_is = refl;
  dealt = none_changed (IsSeated c.args.lock.now (seen c.args.first) c.args.heap) c.args.passes.now;
}

pub split-one-requires : goal.split-one-requires
split-one-requires c = record { own = c.loop-pass.invariant.lock_is }

pub index_mut-requires : goal.index_mut-requires
index_mut-requires c =
    let i : ℕ = c.loop-pass.pass-index in
    let low : i < length c.loop-pass.pass-items = omega arith in
    let pass : Pass = get_or c.loop-pass.pass-items i c.pass-item.result in
    let at : slice_get c.loop-pass.pass-items i ≡ Some pass = slice_get-get_or c.loop-pass.pass-items i c.pass-item.result low in
    let within = c.requires.places i pass (sym (not_yet (IsSeated c.args.lock.now (seen c.args.first) c.args.heap) i c.args.passes.now c.loop-pass.pass-items c.loop-pass.invariant.dealt) ∙ at) in
    omega (arith, within, pass.seats.ok.0)

pub loop-pass-preserved : goal.loop-pass-preserved
loop-pass-preserved c =
    let i : ℕ = c.loop-pass.pass-index in
    let was = c.loop-pass.invariant in
    let low : i < length c.loop-pass.pass-items = omega arith in
    let pass : Pass = get_or c.loop-pass.pass-items i c.pass-item.result in
    let at : slice_get c.loop-pass.pass-items i ≡ Some pass = slice_get-get_or c.loop-pass.pass-items i c.pass-item.result low in
    record {
      lock_is = c.split-one.ensures.lock.1 ∙ was.lock_is;
      seen_is = c.split-one.ensures.seen.1 ∙ was.seen_is;
      dealt = one_more_at (IsSeated c.args.lock.now (seen c.args.first) c.args.heap) i c.args.passes.now c.loop-pass.pass-items pass _ was.dealt at (record {
        counts = refl;
        stamp = refl;
        seat = c.split-one.result.0;
        seats = refl;
        lock_is = c.split-one.ensures.lock.0 ∙ was.lock_is;
        seen_is = c.split-one.ensures.seen.0 ∙ was.seen_is;
      });
    }

pub returns : goal.returns
returns c = record {
  dealt = all_changed (IsSeated c.args.lock.now (seen c.args.first) c.args.heap) c.loop-pass.pass-index c.args.passes.now c.loop-pass.pass-items (omega arith) c.loop-pass.invariant.dealt;
}
