use Rattle.std.proofs.Common.{IsTrue, List, length, map, take, ℕ, ◌+◌, ◌≡◌}
use Rattle.std.specs.Prelude.{vec_capacity}
use Rattle.zq_commands.specs.Arrays.{are_writable}
use Rattle.zq_commands.specs.Calls.{AnswersAll, procedures}
use Rattle.zq_commands.specs.Lending.{HasBook, IsDated, IsLending}
use Rattle.zq_resp.specs.Reply.{reply_bytes}
use Rattle.zq_commands.proofs.each.run_each.Given as goal

abbrev pub invariant-loop-asked : goal.invariant-loop-asked
invariant-loop-asked g l = record {
  ran : AnswersAll (g.B.Books.lent l.initial.books).rule l.site l.stamp (take l.asked-index (procedures l.calls)) (g.B.Books.lent l.initial.books).books (g.B.Books.lent l.books).books (map reply_bytes l.initial.replies.items) (map reply_bytes l.replies.items);
  rule : (g.B.Books.lent l.books).rule ≡ (g.B.Books.lent l.initial.books).rule;
  lent : IsLending (g.B.Books.lent l.books);
  dated : IsDated l.stamp (g.B.Books.lent l.books);
  keeps : g.B.Books.keeps l.initial.books l.books;
  homes : (key member : List ℕ) → HasBook key member (g.B.Books.lent l.books);
  number : length l.replies.items ≡ length l.initial.replies.items + l.asked-index;
  room : vec_capacity l.replies ≡ vec_capacity l.initial.replies;
  writable : IsTrue (are_writable l.initial.replies.items) → IsTrue (are_writable l.replies.items);
}
