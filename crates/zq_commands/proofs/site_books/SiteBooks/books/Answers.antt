use Rattle.std.proofs.Common.{subst}
use Rattle.zq_commands.specs.SiteBooks.{AreOfSite}
use Rattle.zq_commands.proofs.SitePlaces.{site_homes, site_lending}
use Rattle.zq_commands.proofs.site_books.SiteBooks.books.Goals as goal

pub returns-clause-lent : goal.returns-clause-lent
returns-clause-lent c = site_lending c.args.self.now (subst AreOfSite c.self.view_is c.self.invariant)

pub returns-clause-homes : goal.returns-clause-homes
returns-clause-homes c = site_homes c.args.self.now (subst AreOfSite c.self.view_is c.self.invariant)
