use Rattle.std.proofs.Common.{IfOk, ap, drop, inr, map, subst, sym, ◌∙◌, ◌≡◌}
use Rattle.zq_commands.proofs.OnOk.{on_err_weaker}
use Rattle.zq_commands.specs.FirstPairs.{lent_pair}
use Rattle.zq_commands.specs.Lending.{queues_in}
use Rattle.zq_semantics.specs.Plan.{is_there}
use Rattle.zq_semantics.specs.Procedures.{members_of}
use Rattle.zq_words.specs.Words.{views}
use Rattle.zq_commands.proofs.remove_range.members_within.Goals as goal

pub returns-in-Ok-clause-members : goal.returns-in-Ok-clause-members
returns-in-Ok-clause-members g c =
    let q = queues_in (g.B.Books.lent c.args.books.now) c.args.key.now in
    let taken = c.of_range-section.ensures q (sym c.in-Some.ensures.total) in
    subst (λ ps. IfOk c.copy_members.result (λ members. views members.items ≡ members_of ps))
    (ap (λ ps. drop c.in-Ok.before (map lent_pair ps)) c.deref.ensures.value ∙ c.in-Ok.ensures.pairs ∙ sym taken) c.copy_members.ensures.members

pub returns-in-Ok-clause-some : goal.returns-in-Ok-clause-some
returns-in-Ok-clause-some g c =
    let q = queues_in (g.B.Books.lent c.args.books.now) c.args.key.now in
    let taken = c.of_range-section.ensures q (sym c.in-Some.ensures.total) in
    let same = ap (λ ps. drop c.in-Ok.before (map lent_pair ps)) c.deref.ensures.value ∙ c.in-Ok.ensures.pairs ∙ sym taken in
    on_err_weaker c.copy_members.result (λ some. inr (sym (ap is_there same) ∙ some)) c.copy_members.ensures.some

pub returns-in-Err-clause-some : goal.returns-in-Err-clause-some
returns-in-Err-clause-some g c =
    let q = queues_in (g.B.Books.lent c.args.books.now) c.args.key.now in
    let taken = c.of_range-section.ensures q (sym c.in-Some.ensures.total) in
    inr (ap is_there taken ∙ c.in-Err.ensures.some)
