use Rattle.std.proofs.Common.{List, drop, length, map, ◌+◌, ◌≡◌, ◌≤◌}
use Rattle.std.specs.Prelude.{IsTrue, vec_capacity}
use Rattle.std.specs.Vec.Iter.{into_iter_items, into_iter_len}
use Rattle.zq_commands.specs.Arrays.{are_writable}
use Rattle.zq_resp.specs.Reply.{reply_bytes}
use Rattle.zq_session.proofs.Woven.{IsLeft}
use Rattle.zq_session.proofs.transacting.weave.Given as goal
use Rattle.zq_words.specs.Words.{Word}

abbrev pub invariant-loop-place : goal.invariant-loop-place
invariant-loop-place l = record {
  room : length l.room.items + length l.places ≤ vec_capacity l.room + l.place-index;
  count : into_iter_len l.left ≡ length (into_iter_items l.left);
  woven : (all : List Word) → IsLeft l.places (into_iter_items l.initial.left) (map reply_bytes l.initial.room.items) all →
      IsLeft (drop l.place-index l.places) (into_iter_items l.left) (map reply_bytes l.room.items) all;
  writable : IsTrue (are_writable l.initial.room.items) → IsTrue (are_writable (into_iter_items l.initial.left)) →
      IsTrue (are_writable l.room.items) × IsTrue (are_writable (into_iter_items l.left));
}
