use Rattle.std.proofs.Common.{IsTrue, map, take, ◌≡◌}
use Rattle.zq_commands.specs.Arrays.{are_writable}
use Rattle.zq_commands.specs.Lending.{queues_in}
use Rattle.zq_model.specs.Moves.{score_in}
use Rattle.zq_resp.specs.Reply.{reply_bytes}
use Rattle.zq_semantics.specs.Replies.{score_bytes}
use Rattle.zq_words.specs.Words.{views}
use Rattle.zq_commands.proofs.zmscore.copy_scores.Given as goal

abbrev pub invariant-loop-member : goal.invariant-loop-member
invariant-loop-member g l = record {
  parts : map reply_bytes l.parts.items ≡ map score_bytes (map (score_in (queues_in (g.B.Books.lent l.books) l.key)) (take l.member-index (views l.members)));
  writable : IsTrue (are_writable l.parts.items);
}
