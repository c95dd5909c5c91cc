use Rattle.std.proofs.Common.{All, ap, arith, length, rules, subst, ◌∷◌, ◌≡◌}
use Rattle.std.proofs.lemmas.List.Elements.{All-head, All-tail}
use Rattle.std.specs.Arc.{arc_value}
use Rattle.std.specs.Vec.Iter.{into_iter_items}
use Rattle.zq_drill.proofs.Opened.{pushed_all}
use Rattle.zq_drill.proofs.Pushed.{longer}
use Rattle.zq_drill.proofs.opening.share_site.Goals as goal
use Rattle.zq_drill.specs.SiteHandles.{site_of}
use Rattle.zq_drill.specs.declared.site_handle.SiteHandle.{SiteHandle}
use Rattle.zq_drill.specs.declared.drill_site.DrillSite.{DrillSite}
use Rattle.zq_spread.specs.Passes.{IsPassOf}

pub invariant_of-handle : goal.invariant_of-handle
invariant_of-handle c =
    let site = (arc_value c.args.drill_site.now).site in
    let steps : into_iter_items c.loop-pass.pass-iterator ≡ c.in-Some.pass ∷ into_iter_items c.next.new.self = c.in-Some.ensures.steps.0 in
    let all = subst (All (IsPassOf site)) steps c.loop-pass.invariant.0 in
    record { own = rw c.in_ok-try_clone.ensures (All-head (IsPassOf site) c.in-Some.pass (into_iter_items c.next.new.self) all) }

pub loop-pass-preserved : goal.loop-pass-preserved
loop-pass-preserved c =
    let site = (arc_value c.args.drill_site.now).site in
    let rest = into_iter_items c.next.new.self in
    let steps : into_iter_items c.loop-pass.pass-iterator ≡ c.in-Some.pass ∷ rest = c.in-Some.ensures.steps.0 in
    let all = subst (All (IsPassOf site)) steps c.loop-pass.invariant.0 in
    let fewer = ap length steps in
    let more = longer c.push.new.self.items c.loop-pass.handles.items _ c.in_ok-push.ensures.items in
    let same = pushed_all (λ (handle : SiteHandle). site_of handle ≡ site) c.push.new.self.items c.loop-pass.handles.items _ c.in_ok-push.ensures.items c.loop-pass.invariant.3 (ap (λ (drill_site : DrillSite). drill_site.site) c.in_ok-try_clone.ensures) in
    (All-tail (IsPassOf site) c.in-Some.pass rest all, search rules, omega (arith, c.loop-pass.invariant.2, fewer, more), same)
