use Rattle.std.proofs.Common.{subst}
use Rattle.zq_commands.specs.Calls.{procedures}
use Rattle.zq_journal.specs.Books.{LAST_STAMP}
use Rattle.zq_semantics.specs.Procedures.{RunsAll}
use Rattle.zq_spread.proofs.Worked.{begun_books, begun_dated, each_over, lends_at, may_end_each, rule_at}
use Rattle.zq_spread.proofs.site.Site.work_each.Goals as goal
use Rattle.zq_spread.specs.Several.{books_of, helds_of}

pub run_each-requires-clause-lent : goal.run_each-requires-clause-lent
run_each-requires-clause-lent c =
    let site = c.args.self.now in
    let helds = helds_of c.args.holds.now in
    let begun = c.requires.begun in
    lends_at site c.requires.pass.slots c.args.heaps.now (books_of helds) c.requires.heaps (begun_books site c.requires.pass.slots begun.0 c.args.stamp c.args.heaps.now helds begun.1 begun.2)

pub run_each-requires-clause-dated : goal.run_each-requires-clause-dated
unfolding LAST_STAMP
run_each-requires-clause-dated c =
    let begun = c.requires.begun in
    (c.requires.last, λ b here. begun_dated c.args.self.now begun.0 c.args.stamp c.args.heaps.now (helds_of c.args.holds.now) begun.1 b begun.2 here)

pub end_all-requires-clause-worked : goal.end_all-requires-clause-worked
end_all-requires-clause-worked c =
    let begun = c.requires.begun in
    may_end_each c.args.self.now begun.0 c.args.stamp c.args.heaps.now (helds_of c.args.holds.now) (helds_of c.run_each.new.books) begun.1 begun.2 c.run_each.ensures.keeps c.run_each.ensures.dated.1

pub returns-clause-called : goal.returns-clause-called
returns-clause-called c = λ before found begun outside next.
    let site = c.args.self.now in
    let heaps = c.args.heaps.now in
    let olds = helds_of c.args.holds.now in
    let news = helds_of c.run_each.new.books in
    let rule = rule_at site c.requires.pass.slots heaps (books_of olds) c.requires.some (begun_books site c.requires.pass.slots before c.args.stamp heaps olds found begun) in
    let ran = c.run_each.ensures.ran in (
      ran.0,
      ran.1,
      each_over site before c.args.stamp (procedures c.args.calls.now) ran.0 c.args.pass.now c.end_all.new.pass heaps olds news found begun c.run_each.ensures.keeps c.run_each.ensures.dated.1
          c.end_all.ensures.stamp outside c.end_all.ensures.ended c.end_all.ensures.others next
          (subst (λ r. RunsAll r site.number c.args.stamp (procedures c.args.calls.now) (books_of olds) (books_of news) ran.0) rule ran.2),
    )
