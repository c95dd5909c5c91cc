use Rattle.std.proofs.Common.{rules, subst, sym, true, ◌∙◌, ◌≡◌}
use Rattle.zq_commands.proofs.RanPlans.{raise_let}
use Rattle.zq_commands.specs.Running.{EndsOver}
use Rattle.zq_semantics.specs.Plan as plan
use Rattle.zq_semantics.specs.Run.{ForMoves, cut_error}
use Rattle.zq_resp.specs.Reply.{reply_bytes}
use Rattle.zq_commands.proofs.zincrby.raise_if.Goals as goal

pub returns-clause-ran : goal.returns-clause-ran
returns-clause-ran g c =
    let old = c.find-found.result.score in
    let let_ : c.is_sum_let.result ≡ true = search rules in
    let passes : plan.lets c.args.flags old (plan.sum_of old c.args.pair.now.score) ≡ true = sym c.is_sum_let.ensures ∙ let_ in
    subst (λ score. EndsOver c.args.call.now.site c.args.call.now.stamp ForMoves (plan.raise_if c.args.flags c.args.key.now c.args.pair.now.member.now score c.args.pair.now.score) cut_error (g.B.Books.lent c.args.books.now) (g.B.Books.lent c.raise_from.new.books) (reply_bytes (g.O.Outcome.reply c.raise_from.result)) (g.O.Outcome.is_short c.raise_from.result))
    c.find-found.ensures.score
    (subst (λ p. EndsOver c.args.call.now.site c.args.call.now.stamp ForMoves p cut_error (g.B.Books.lent c.args.books.now) (g.B.Books.lent c.raise_from.new.books) (reply_bytes (g.O.Outcome.reply c.raise_from.result)) (g.O.Outcome.is_short c.raise_from.result))
    (sym (raise_let c.args.flags c.args.key.now c.args.pair.now.member.now old c.args.pair.now.score passes)) c.raise_from.ensures.ran)
