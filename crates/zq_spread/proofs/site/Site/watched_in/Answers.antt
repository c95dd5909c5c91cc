use Rattle.zq_spread.proofs.Called.{pass_back, stopped_back}
use Rattle.zq_spread.proofs.Worked.{begun_books}
use Rattle.zq_spread.proofs.site.Site.watched_in.Goals as goal
use Rattle.zq_spread.specs.Several.{books_of, helds_of}

pub work_watched-ran-requires-clause-homes : goal.work_watched-ran-requires-clause-homes
work_watched-ran-requires-clause-homes g c =
    let begun = c.in-Ok.ensures.begun in
    let helds = helds_of c.begin_all.new.holds in
    c.requires.homes (books_of helds) (begun_books c.args.self.now c.requires.pass.slots c.args.pass.now c.in-Ok.stamp c.args.heaps.now helds begun.found begun.each)

pub returns-in-Ok-clause-called : goal.returns-in-Ok-clause-called
returns-in-Ok-clause-called g c =
    let begun = c.in-Ok.ensures.begun in
    c.work_watched-ran.ensures.called c.args.pass.now begun.found begun.each c.in-Ok.ensures.outside begun.next

pub returns-in-Err-clause-pass : goal.returns-in-Err-clause-pass
returns-in-Err-clause-pass g c = pass_back c.args.self.now c.args.heaps.now c.args.pass.now c.begin_all.new.pass c.requires.pass c.in-Err.ensures.back

pub returns-in-Err-clause-stopped : goal.returns-in-Err-clause-stopped
returns-in-Err-clause-stopped g c = stopped_back c.args.self.now c.args.heaps.now c.args.pass.now c.begin_all.new.pass c.in-Err.ensures.back
