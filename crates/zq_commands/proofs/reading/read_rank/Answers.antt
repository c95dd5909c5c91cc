use Rattle.std.proofs.Common.{Some, ap, false, length, rules, sym, ◌∙◌, ◌≡◌}
use Rattle.std.proofs.lemmas.Int.{to_z-of_z}
use Rattle.std.specs.Int.{w128}
use Rattle.std.specs.Prelude.{count_by}
use mir.Val.{SFits}
use Rattle.zq_commands.proofs.Ranks.{rank_read}
use Rattle.zq_commands.specs.Lending.{queues_in}
use Rattle.zq_model.specs.Moves.{score_in}
use Rattle.zq_model.specs.Readings.{is_before}
use Rattle.zq_semantics.specs.Run.{ForReply}
use Rattle.zq_resp.specs.Reply.{reply_bytes}
use Rattle.zq_commands.proofs.reading.read_rank.Goals as goal

pub returns-in-Some-total_before-clause-read : goal.returns-in-Some-total_before-clause-read
returns-in-Some-total_before-clause-read g c =
    let q = queues_in (g.B.Books.lent c.args.books.now) c.args.key.now in
    let score = c.in-Some.score in
    let there : score_in q c.args.member.now ≡ Some score = sym c.score_of.ensures.score ∙ c.in-Some.is in
    let fits : SFits w128 score = search rules in
    rank_read q c.args.member.now score c.in-Some-total_before.total _ there
    (c.in-Some-total_before.ensures.total ∙ ap (λ s. count_by (λ pair. is_before pair (s, c.args.member.now)) q) (to_z-of_z w128 score fits)) (ap reply_bytes c.of_reply-in-Some-total_before.ensures ∙ c.count_reply.ensures.bytes) (ForReply false (length q)) _
