use Rattle.std.proofs.Common.{Err, ap, rules, sym, true, ◌∙◌, ◌≡◌}
use Rattle.zq_commands.proofs.RanPlans.{raise_in, ran_refused}
use Rattle.zq_model.specs.Moves.{Move}
use Rattle.zq_semantics.specs.Plan as plan
use Rattle.zq_words.specs.Words as words
use Rattle.zq_commands.proofs.zincrby.raise_from.Goals as goal

pub returns-in-Err-clause-ran : goal.returns-in-Err-clause-ran
returns-in-Err-clause-ran g c =
    let in_range : c.is_sum_in_range.result ≡ true = search rules in
    let within : words.is_in_range (plan.sum_of c.args.found.score c.args.pair.now.score) ≡ true = sym c.is_sum_in_range.ensures ∙ in_range in
    let move : Move = record { key = c.args.key.now; member = c.args.pair.now.member.now; act = plan.raising c.args.found.score c.args.pair.now.score } in
    ran_refused c.args.call.now.site c.args.call.now.stamp (plan.raise c.args.key.now c.args.pair.now.member.now c.args.found.score c.args.pair.now.score) move c.in-Err.cut (g.B.Books.lent c.args.books.now)
    (g.B.Books.lent c.raise_member.new.books) _ _ (ap (λ (p : plan.Plan). p.moves) (raise_in c.args.key.now c.args.pair.now.member.now c.args.found.score c.args.pair.now.score within))
    c.in-Err.ensures.refused (λ e. c.in-Err.ensures.worn (ap (λ cut. Err cut) e)) (λ e. c.in-Err.ensures.memory (ap (λ cut. Err cut) e)) c.of_cut.ensures.bytes c.of_cut.ensures.short
