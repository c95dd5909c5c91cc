use Rattle.std.proofs.Common.{length, map, take, ◌≡◌, ◌≤◌}
use Rattle.std.specs.Prelude.{vec_capacity}
use Rattle.zq_session.proofs.transacting.copy_request.Given as goal

abbrev pub invariant-loop-word : goal.invariant-loop-word
invariant-loop-word l = record {
  copied : map (λ w. w.items) l.copied.items ≡ map (λ w. w.items) (take l.word-index l.words);
  number : length l.copied.items ≡ l.word-index;
  room : length l.words ≤ vec_capacity l.copied;
}
