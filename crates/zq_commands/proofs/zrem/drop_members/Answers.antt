use Rattle.std.proofs.Common.{ap, ◌∙◌}
use Rattle.zq_commands.proofs.Dropped.{ends_dropped}
use Rattle.zq_commands.specs.Lending.{queues_in}
use Rattle.zq_semantics.specs.Plan.{count_in_turn, zrem_part}
use Rattle.zq_semantics.specs.Replies.{bytes_of, count_reply}
use Rattle.zq_semantics.specs.Run.{ForMoves, cut_error}
use Rattle.zq_words.specs.Words.{views}
use Rattle.zq_commands.proofs.zrem.drop_members.Goals as goal

pub returns-clause-ran : goal.returns-clause-ran
returns-clause-ran g c =
    let words = views c.args.members.now in
    let old = g.B.Books.lent c.args.books.now in
    ends_dropped c.args.call.now.site c.args.call.now.stamp ForMoves c.args.key.now words old (g.B.Books.lent c.drop_each.new.books) c.drop_each.result c.drop_each.ensures.dropped
    (count_reply (count_in_turn (zrem_part c.args.key.now) words (queues_in old))) (λ k. cut_error k) _ _ (λ next want why. why)
    (λ none left. c.answer_dropped.ensures.whole none ∙ ap (λ n. bytes_of (count_reply n)) left.1) c.answer_dropped.ensures.part c.answer_dropped.ensures.short
