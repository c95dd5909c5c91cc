use Rattle.std.proofs.Common.{IsTrue, List, drop, length, take, ◌++◌, ◌≡◌}
use Rattle.zq_client.specs.Clients.{Client}
use Rattle.zq_commands.specs.Arrays.{are_writable}
use Rattle.zq_resp.specs.declared.reply.Reply.{Reply}
use Rattle.zq_serve.proofs.knowing.Knowing.fill.Given as goal
use Rattle.zq_serve.specs.Transactions.{AreFilled}

abbrev pub invariant-loop-place : goal.invariant-loop-place
invariant-loop-place g l = record {
  number : length l.replies ≡ length l.initial.replies;
  filled : (are : List Reply) (after : Client) →
      AreFilled l.desk.profile l.client (drop l.place l.requests) (drop l.place l.replies) are after →
      AreFilled l.desk.profile l.initial.client l.requests l.initial.replies (take l.place l.replies ++ are) after;
  writable : IsTrue (are_writable l.initial.replies) → IsTrue (are_writable l.replies);
}
