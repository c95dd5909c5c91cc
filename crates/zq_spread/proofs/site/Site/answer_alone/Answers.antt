use Rattle.std.proofs.Common.{List, ap, arith, length, subst, ◌∙◌, ◌≡◌}
use Rattle.std.specs.Prelude.{[]}
use Rattle.zq_dots.specs.Rule.{rule_of}
use Rattle.zq_commands.specs.VecBooks.{rule_in}
use Rattle.zq_model.specs.Books.{Book}
use Rattle.zq_journal.specs.Books.{LAST_STAMP}
use Rattle.zq_model.specs.Sets.{IsIn}
use Rattle.zq_semantics.specs.Run.{IsRun}
use Rattle.zq_resp.specs.Reply.{reply_bytes}
use Rattle.zq_spread.proofs.Named.{ran_alone}
use Rattle.zq_spread.proofs.Places.{nothing_left}
use Rattle.zq_spread.proofs.site.Site.answer_alone.Goals as goal
use Rattle.zq_spread.specs.Calls.{heaps_of}

pub run-requires-clause-dated : goal.run-requires-clause-dated
unfolding LAST_STAMP
run-requires-clause-dated c = (
  (let last = c.requires.pass.stamp in omega (arith, last)),
  λ book here. absurd (subst (IsIn book) c.new-books.ensures.items here),
)

pub returns-clause-answered : goal.returns-clause-answered
returns-clause-answered c =
    let site = c.args.self.now in
    let none = c.new-books.ensures.items in
    let new : List Book = c.run.new.books.items in
    let left : new ≡ [] = nothing_left new (c.run.ensures.keeps.number ∙ ap length none) in
    let ran = subst (λ (l : List Book). IsRun (rule_in c.new-books.result.items) site.number c.args.pass.now.stamp c.args.command.now c.new-books.result.items l (reply_bytes c.run.result)) left c.run.ensures.ran in
    record {
      left = [];
      ran = ran_alone c.args.command.now (heaps_of site) c.requires.none (rule_in c.new-books.result.items) (rule_of site.rule) site.number c.args.pass.now.stamp (reply_bytes c.run.result)
          (subst (λ (l : List Book). IsRun (rule_in c.new-books.result.items) site.number c.args.pass.now.stamp c.args.command.now l [] (reply_bytes c.run.result)) none ran);
      appended = tt;
    }
