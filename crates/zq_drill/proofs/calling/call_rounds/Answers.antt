use Rattle.std.proofs.Common.{arith, subst, ◌∙◌, ◌∷◌}
use Rattle.zq_drill.proofs.SiteShares.{same_site}
use Rattle.zq_drill.proofs.calling.call_rounds.Goals as goal
use Rattle.zq_drill.specs.Rounds.{IsRound}

pub loop-round-preserved : goal.loop-round-preserved
loop-round-preserved g c =
    let inv = c.loop-round.invariant in
    let handle = c.loop-round.handle in
    let called = c.in_ok-call_once.ensures.called in
    let round = subst (λ site. IsRound site c.next-draw.result called.0 handle.pass c.call_once.new.handle.pass) (same_site handle c.args.handle.now inv.0) called.1 in
    (c.call_once.ensures.drill_site ∙ inv.0, (called.0 ∷ inv.1.0, omega (arith, inv.1.1), (c.loop-round.draws, handle.pass, c.next-draw.result, inv.1.2, c.next-draw.ensures.words, c.next-draw.ensures.goes_on, round)))
