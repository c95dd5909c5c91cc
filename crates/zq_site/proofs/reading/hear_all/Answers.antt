use Rattle.zq_site.proofs.Hearing.{heard_next}
use Rattle.zq_site.proofs.reading.hear_all.Goals as goal

pub loop-frame-preserved : goal.loop-frame-preserved
loop-frame-preserved g c =
    heard_next g.H.Hear.hears c.args.ear.now c.loop-frame.ear c.hear.new.self c.loop-frame.yielded c.in-Some.frame c.loop-frame.invariant c.hear.ensures
