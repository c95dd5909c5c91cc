use Rattle.std.proofs.Common.{ap, drop, inl, inr, length, map, refl, subst, sym, ◌∙◌}
use Rattle.zq_commands.proofs.RanPlans.{read_wider}
use Rattle.zq_commands.proofs.Sections.{length_turned}
use Rattle.zq_commands.specs.FirstPairs.{lent_pair}
use Rattle.zq_commands.specs.Lending.{queues_in}
use Rattle.zq_commands.specs.Running.{IsReadAs}
use Rattle.zq_semantics.specs.Plan.{is_there}
use Rattle.zq_semantics.specs.Ranges.{ranged, turned_if}
use Rattle.zq_semantics.specs.Replies as plan
use Rattle.zq_semantics.specs.Run.{ForReply}
use Rattle.zq_resp.specs.Reply.{reply_bytes}
use Rattle.zq_commands.proofs.zrange.read_range.Goals as goal

pub returns-in-Ok-clause-read : goal.returns-in-Ok-clause-read
returns-in-Ok-clause-read g c =
    let all = queues_in (g.B.Books.lent c.args.books.now) c.args.key.now in
    let taken = c.of_range-section.ensures (turned_if c.args.is_turned all) (length_turned c.args.is_turned all ∙ sym c.in-Some.ensures.total) in
    let pairs = ap (λ ps. drop c.in-Ok.before (map lent_pair ps)) c.deref.ensures.value ∙ c.in-Ok.ensures.pairs in
    let range = ranged c.args.range.now (turned_if c.args.is_turned all) in
    read_wider (is_there range) (length all) (plan.pairs_reply c.args.with_scores range) (reply_bytes (g.O.Outcome.reply c.pairs_reply.result)) (g.O.Outcome.is_short c.pairs_reply.result)
    (subst (λ ps. IsReadAs (ForReply (is_there ps) 0) (plan.pairs_reply c.args.with_scores ps) (reply_bytes (g.O.Outcome.reply c.pairs_reply.result)) (g.O.Outcome.is_short c.pairs_reply.result)) (pairs ∙ sym taken) c.pairs_reply.ensures.read)

pub returns-in-Err-clause-read : goal.returns-in-Err-clause-read
returns-in-Err-clause-read g c =
    let all = queues_in (g.B.Books.lent c.args.books.now) c.args.key.now in
    let taken = c.of_range-section.ensures (turned_if c.args.is_turned all) (length_turned c.args.is_turned all ∙ sym c.in-Some.ensures.total) in
    inr (inl (ap is_there taken ∙ c.in-Err.ensures.some), c.of_cut-in-Err.ensures.bytes, c.of_cut-in-Err.ensures.short refl)
