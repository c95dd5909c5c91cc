use Rattle.std.proofs.Common.{ap, arith, inl, inr, length, subst}
use Rattle.std.proofs.lemmas.List.{length_push}
use Rattle.std.specs.Prelude.{Some, slice_get, ◌≡◌}
use Rattle.zq_spread.proofs.Places.{behind}
use Rattle.zq_spread.proofs.building.empty_passes.Goals as goal
use Rattle.zq_spread.specs.SiteBuilders.{HasPlaces}

pub loop-pass-preserved : goal.loop-pass-preserved
loop-pass-preserved c =
    let old = c.loop-pass.passes.items in
    let new = c.in_ok-pass.pass in
    let items = c.in_ok-push.ensures.items in
    record {
      number = let long = ap length items in let more = length_push old new in omega (arith, long, more, c.loop-pass.invariant.number);
      places = λ i pass at. elim (behind old new pass i (subst (λ l. slice_get l i ≡ Some pass) items at)) [
        | inl there ↦ c.loop-pass.invariant.places i pass there
        | inr last ↦ subst (HasPlaces c.args.heaps) last.1 c.in_ok-pass.ensures
      ];
    }
