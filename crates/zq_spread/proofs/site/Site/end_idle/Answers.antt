use Rattle.zq_spread.proofs.Worked.{idle_over, may_end_idle}
use Rattle.zq_spread.proofs.site.Site.end_idle.Goals as goal
use Rattle.zq_spread.specs.Several.{helds_of}

pub end_all-requires-clause-worked : goal.end_all-requires-clause-worked
end_all-requires-clause-worked c =
    let begun = c.requires.begun in
    may_end_idle c.args.self.now begun.0 c.args.stamp c.args.heaps.now (helds_of c.args.holds.now) begun.1 begun.2

pub returns-clause-called : goal.returns-clause-called
returns-clause-called c = λ before found begun outside next.
    idle_over c.args.self.now before c.args.stamp c.args.pass.now c.end_all.new.pass c.args.heaps.now (helds_of c.args.holds.now) found begun
    c.end_all.ensures.stamp outside c.end_all.ensures.ended c.end_all.ensures.others next
