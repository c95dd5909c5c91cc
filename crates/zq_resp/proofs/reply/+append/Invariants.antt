use Rattle.std.proofs.Common.{◌≡◌, ◌+◌, ◌≤◌, ◌++◌, length, take, drop}
use Rattle.std.specs.Vec.{vec_len, vec_capacity}
use Rattle.zq_resp.specs.Reply.{all_bytes}
use Rattle.zq_resp.proofs.reply.+append.Given as goal

abbrev pub invariant-append_all-loop-reply : goal.invariant-append_all-loop-reply
invariant-append_all-loop-reply l = record {
  written : l.out.items ++ all_bytes (drop l.reply-index l.replies) ≡ l.initial.out.items ++ all_bytes l.replies;
  size : vec_len l.out + length (all_bytes (drop l.reply-index l.replies)) ≡ vec_len l.initial.out + length (all_bytes l.replies);
  capacity : vec_capacity l.initial.out ≤ vec_capacity l.out;
  kept : take (length l.initial.out.items) l.out.items ≡ l.initial.out.items;
}
