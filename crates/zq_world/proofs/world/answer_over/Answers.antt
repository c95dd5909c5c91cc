use Rattle.zq_commands.proofs.SitePlaces.{site_homes, site_lending}
use Rattle.zq_world.proofs.Readings.{reading_too}
use Rattle.zq_world.proofs.world.answer_over.Goals as goal

pub read_over-requires-clause-lent : goal.read_over-requires-clause-lent
read_over-requires-clause-lent c = site_lending c.args.books.now.items c.requires.site

pub read_over-requires-clause-homes : goal.read_over-requires-clause-homes
read_over-requires-clause-homes c = site_homes c.args.books.now.items c.requires.site c.in-Ok.command

pub read_over-requires-clause-reads : goal.read_over-requires-clause-reads
read_over-requires-clause-reads c = reading_too c.args.request.now c.in-Ok.command c.requires.question c.in-Ok.ensures
