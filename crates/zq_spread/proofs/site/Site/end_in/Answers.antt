use Rattle.std.specs.Prelude.{[]}
use Rattle.zq_spread.proofs.Seats.{all_home}
use Rattle.zq_spread.proofs.site.Site.end_in.Goals as goal

pub finish-requires-clause-pass : goal.finish-requires-clause-pass
finish-requires-clause-pass c = ([], c.requires.pass)

pub returns-clause-pass : goal.returns-clause-pass
returns-clause-pass c = all_home c.args.self.now c.finish.new.pass (c.finish.ensures.pass [] c.requires.pass)
