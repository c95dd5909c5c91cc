use Rattle.std.proofs.Common.{subst, sym}
use Rattle.zq_commands.specs.Commands.{HasBooks}
use Rattle.zq_commands.specs.Lending.{queues_in}
use Rattle.zq_commands.specs.Running.{IsReadAs}
use Rattle.zq_semantics.specs.Plan.{plan_of}
use Rattle.zq_semantics.specs.Run.{takes_of}
use Rattle.zq_resp.specs.Reply.{reply_bytes}
use Rattle.zq_words.specs.Limits.{IsWithinLimits}
use Rattle.zq_words.specs.Shown.{shown}
use Rattle.zq_commands.proofs.running.read.Goals as goal

pub read_score-requires-clause-home : goal.read_score-requires-clause-home
read_score-requires-clause-home g c = subst (λ kind. HasBooks (shown kind) (g.B.Books.lent c.args.books.now)) c.in-Zscore.is c.requires.homes

pub read_rank-requires-clause-home : goal.read_rank-requires-clause-home
read_rank-requires-clause-home g c = subst (λ kind. HasBooks (shown kind) (g.B.Books.lent c.args.books.now)) c.in-Zrank.is c.requires.homes

pub read_turned_rank-requires-clause-home : goal.read_turned_rank-requires-clause-home
read_turned_rank-requires-clause-home g c = subst (λ kind. HasBooks (shown kind) (g.B.Books.lent c.args.books.now)) c.in-Zrevrank.is c.requires.homes

pub returns-in-Zcount-clause-read : goal.returns-in-Zcount-clause-read
returns-in-Zcount-clause-read g c =
    subst (λ kind. IsReadAs (takes_of (shown kind) (queues_in (g.B.Books.lent c.args.books.now))) (plan_of (shown kind) (queues_in (g.B.Books.lent c.args.books.now))).reply (reply_bytes (g.O.Outcome.reply c.read_within.result)) (g.O.Outcome.is_short c.read_within.result)) (sym c.in-Zcount.is) c.read_within.ensures.read

pub returns-in-Zrange-clause-read : goal.returns-in-Zrange-clause-read
returns-in-Zrange-clause-read g c =
    subst (λ kind. IsReadAs (takes_of (shown kind) (queues_in (g.B.Books.lent c.args.books.now))) (plan_of (shown kind) (queues_in (g.B.Books.lent c.args.books.now))).reply (reply_bytes (g.O.Outcome.reply c.read_range.result)) (g.O.Outcome.is_short c.read_range.result)) (sym c.in-Zrange.is) c.read_range.ensures.read

pub read_score-requires-clause-key : goal.read_score-requires-clause-key
read_score-requires-clause-key g c = (subst (λ kind. IsWithinLimits (shown kind)) c.in-Zscore.is c.requires.limits).0

pub read_rank-requires-clause-key : goal.read_rank-requires-clause-key
read_rank-requires-clause-key g c = (subst (λ kind. IsWithinLimits (shown kind)) c.in-Zrank.is c.requires.limits).0

pub read_turned_rank-requires-clause-key : goal.read_turned_rank-requires-clause-key
read_turned_rank-requires-clause-key g c = (subst (λ kind. IsWithinLimits (shown kind)) c.in-Zrevrank.is c.requires.limits).0
