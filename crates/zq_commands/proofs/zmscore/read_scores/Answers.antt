use Rattle.std.proofs.Common.{ap, inl, inr, map, refl, ◌∙◌}
use Rattle.zq_commands.proofs.ScoreLists.{scores_bytes}
use Rattle.zq_commands.specs.Arrays.{array_bytes}
use Rattle.zq_commands.specs.Lending.{queues_in}
use Rattle.zq_model.specs.Moves.{score_in}
use Rattle.zq_resp.specs.Reply.{reply_bytes}
use Rattle.zq_words.specs.Words.{views}
use Rattle.zq_commands.proofs.zmscore.read_scores.Goals as goal

pub returns-in-Ok-clause-read : goal.returns-in-Ok-clause-read
returns-in-Ok-clause-read g c =
    let scores = map (score_in (queues_in (g.B.Books.lent c.args.books.now) c.args.key.now)) (views c.args.members.now) in
    inl (ap reply_bytes c.of_reply.ensures ∙ c.array_reply.ensures.bytes ∙ ap array_bytes c.in-Ok.ensures.parts ∙ scores_bytes scores)

pub returns-in-Err-clause-read : goal.returns-in-Err-clause-read
returns-in-Err-clause-read g c = inr (inl refl, c.of_cut.ensures.bytes, c.of_cut.ensures.short refl)
