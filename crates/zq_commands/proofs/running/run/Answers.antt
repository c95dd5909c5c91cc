use Rattle.std.proofs.Common.{subst, sym}
use Rattle.zq_commands.proofs.RanPlans.{ran_books, ran_foreseen, ran_heaps, ran_rule}
use Rattle.zq_commands.specs.Commands.{HasBooks}
use Rattle.zq_commands.specs.Lending.{IsDated, IsLending}
use Rattle.zq_words.specs.Shown.{shown}
use Rattle.zq_commands.proofs.running.run.Goals as goal

pub run_kind-requires-clause-lent : goal.run_kind-requires-clause-lent
run_kind-requires-clause-lent g c = subst IsLending (sym c.make_index.ensures.same) c.requires.lent

pub run_kind-requires-clause-dated : goal.run_kind-requires-clause-dated
run_kind-requires-clause-dated g c = subst (IsDated c.args.stamp) (sym c.make_index.ensures.same) c.requires.dated

pub run_kind-requires-clause-homes : goal.run_kind-requires-clause-homes
run_kind-requires-clause-homes g c =
    subst (HasBooks (shown c.kind-kind.result.now)) (sym c.make_index.ensures.same)
    (subst (λ command. HasBooks command (g.B.Books.lent c.args.books.now)) (sym c.kind-kind.ensures.kind) c.requires.homes)

pub returns-clause-told : goal.returns-clause-told
returns-clause-told g c =
    ran_foreseen c.args.site c.args.stamp _ _ _ _ _ _ _ c.kind-kind.ensures.kind c.make_index.ensures.same c.run_kind.ensures.ran

pub returns-clause-ran : goal.returns-clause-ran
returns-clause-ran g c = ran_books c.args.site c.args.stamp _ _ _ _ _ _ _ (returns-clause-told g c)

pub returns-clause-rule : goal.returns-clause-rule
returns-clause-rule g c = ran_rule c.args.site c.args.stamp _ _ _ _ _ _ _ (returns-clause-told g c)

pub returns-clause-heaps : goal.returns-clause-heaps
returns-clause-heaps g c = ran_heaps c.args.site c.args.stamp _ _ _ _ _ _ _ (returns-clause-told g c)

pub returns-clause-keeps : goal.returns-clause-keeps
returns-clause-keeps g c = g.met.B.Books.keeps_through _ _ _ c.make_index.ensures.keeps c.run_kind.ensures.keeps
