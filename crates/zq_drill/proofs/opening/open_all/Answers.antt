use Rattle.std.proofs.Common.{ap, ◌∙◌}
use Rattle.std.specs.Arc.{arc_value}
use Rattle.zq_drill.proofs.Opened.{of_site, one_more}
use Rattle.zq_drill.proofs.opening.open_all.Goals as goal
use Rattle.zq_spread.specs.declared.site.Site.{Site}

pub loop-number-preserved : goal.loop-number-preserved
loop-number-preserved c =
    let seated = c.in_ok-append_handles.ensures in
    let site = (arc_value c.in_ok-drill_site.drill_site).site in
    let same = of_site c.in_ok-three.three.items site seated.0 c.in_ok-three.ensures.site seated.1 in
    let number = ap (λ (s : Site). s.number) same ∙ (c.in_ok-drill_site.ensures.number ∙ c.site_at.ensures) in
    one_more c.loop-number.number c.loop-number.handles.last.items c.append_handles.new.handles.last.items seated.0 c.loop-number.invariant seated.2 number
