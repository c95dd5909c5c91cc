use Rattle.std.proofs.Common.{List, subst, sym}
use Rattle.zq_commands.proofs.SitePlaces.{site_homes, site_lending}
use Rattle.zq_commands.proofs.SiteRuns.{of_site_run}
use Rattle.zq_commands.specs.Lending.{IsDated}
use Rattle.zq_commands.specs.VecBooks.{lending_of, rule_in}
use Rattle.zq_model.specs.Books.{Book}
use Rattle.zq_semantics.specs.Run.{IsRun}
use Rattle.zq_resp.specs.Reply.{reply_bytes}
use Rattle.zq_commands.proofs.site_books.SiteBooks.run.Goals as goal

pub run-requires-clause-lent : goal.run-requires-clause-lent
run-requires-clause-lent c = site_lending c.self.inside.books.items c.self.invariant

pub run-requires-clause-dated : goal.run-requires-clause-dated
run-requires-clause-dated c = subst (λ (xs : List Book). IsDated c.args.stamp (lending_of xs)) (sym c.self.view_is) c.requires.dated

pub run-requires-clause-homes : goal.run-requires-clause-homes
run-requires-clause-homes c = site_homes c.self.inside.books.items c.self.invariant c.args.command.now

pub invariant_of-self : goal.invariant_of-self
invariant_of-self c =
    of_site_run c.args.site c.args.stamp _ _ _ c.self.inside.books.items c.run.new.books.items _ c.run.ensures.ran c.self.invariant c.run.ensures.keeps.number c.run.ensures.lent

pub returns-clause-ran : goal.returns-clause-ran
returns-clause-ran c =
    subst (λ (xs : List Book). IsRun (rule_in xs) c.args.site c.args.stamp c.args.command.now xs c.run.new.books.items (reply_bytes c.run.result)) c.self.view_is c.run.ensures.ran
