use Rattle.std.proofs.Common.{subst, sym, true}
use Rattle.zq_commands.proofs.RanPlans.{ran_books, ran_heaps, ran_rule}
use Rattle.zq_commands.specs.Calls.{EndsProcedure, HasCallBooks}
use Rattle.zq_commands.specs.Lending.{IsDated, IsLending}
use Rattle.zq_resp.specs.Reply.{reply_bytes}
use Rattle.zq_semantics.specs.Procedures.{procedure}
use Rattle.zq_words.specs.Calls.{call_shown}
use Rattle.zq_commands.proofs.asked.run_call.Goals as goal

pub run-requires-clause-homes : goal.run-requires-clause-homes
run-requires-clause-homes g c = subst (λ asked. HasCallBooks (call_shown asked) (g.B.Books.lent c.args.books.now)) c.in-Command.is c.requires.homes

pub returns-in-Command-clause-told : goal.returns-in-Command-clause-told
returns-in-Command-clause-told g c =
    subst (λ asked. EndsProcedure c.args.site c.args.stamp (procedure (call_shown asked)) (g.B.Books.lent c.args.books.now) (g.B.Books.lent c.run.new.books) (reply_bytes c.run.result) true) (sym c.in-Command.is) c.run.ensures.told

pub returns-in-Command-clause-ran : goal.returns-in-Command-clause-ran
returns-in-Command-clause-ran g c = ran_books c.args.site c.args.stamp _ _ _ _ _ _ _ (returns-in-Command-clause-told g c)

pub run_other-requires-clause-lent : goal.run_other-requires-clause-lent
run_other-requires-clause-lent g c = subst IsLending (sym c.index_asked.ensures.same) c.requires.lent

pub run_other-requires-clause-dated : goal.run_other-requires-clause-dated
run_other-requires-clause-dated g c = subst (IsDated c.args.stamp) (sym c.index_asked.ensures.same) c.requires.dated

pub run_other-requires-clause-homes : goal.run_other-requires-clause-homes
run_other-requires-clause-homes g c = subst (HasCallBooks (call_shown c.args.asked.now)) (sym c.index_asked.ensures.same) c.requires.homes

pub returns-in_default-clause-told : goal.returns-in_default-clause-told
returns-in_default-clause-told g c =
    subst (λ lent. EndsProcedure c.args.site c.args.stamp (procedure (call_shown c.args.asked.now)) lent (g.B.Books.lent c.run_other.new.books) (reply_bytes c.run_other.result) true) c.index_asked.ensures.same c.run_other.ensures.told

pub returns-in_default-clause-ran : goal.returns-in_default-clause-ran
returns-in_default-clause-ran g c = ran_books c.args.site c.args.stamp _ _ _ _ _ _ _ (returns-in_default-clause-told g c)

pub returns-in_default-clause-rule : goal.returns-in_default-clause-rule
returns-in_default-clause-rule g c = ran_rule c.args.site c.args.stamp _ _ _ _ _ _ _ (returns-in_default-clause-told g c)

pub returns-in_default-clause-heaps : goal.returns-in_default-clause-heaps
returns-in_default-clause-heaps g c = ran_heaps c.args.site c.args.stamp _ _ _ _ _ _ _ (returns-in_default-clause-told g c)

pub returns-in_default-clause-keeps : goal.returns-in_default-clause-keeps
returns-in_default-clause-keeps g c = g.met.B.Books.keeps_through _ _ _ c.index_asked.ensures.keeps c.run_other.ensures.keeps
