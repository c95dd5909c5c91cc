use Rattle.std.proofs.Common.{subst}
use Rattle.zq_commands.specs.Running.{EndsOver}
use Rattle.zq_semantics.specs.Plan as plan
use Rattle.zq_semantics.specs.Run.{ForMoves, cut_error}
use Rattle.zq_resp.specs.Reply.{reply_bytes}
use Rattle.zq_commands.proofs.zincrby.raise.Goals as goal

pub returns-clause-ran : goal.returns-clause-ran
returns-clause-ran g c =
    subst (λ old. EndsOver c.args.call.now.site c.args.call.now.stamp ForMoves (plan.raise c.args.key.now c.args.pair.now.member.now old c.args.pair.now.score) cut_error (g.B.Books.lent c.args.books.now) (g.B.Books.lent c.raise_from.new.books) (reply_bytes (g.O.Outcome.reply c.raise_from.result)) (g.O.Outcome.is_short c.raise_from.result))
    c.find-found.ensures.score c.raise_from.ensures.ran
