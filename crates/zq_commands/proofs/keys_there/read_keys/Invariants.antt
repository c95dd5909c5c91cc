use Rattle.std.proofs.Common.{take, ◌≡◌, ◌≤◌}
use Rattle.std.specs.Prelude.{count_by}
use Rattle.zq_commands.specs.Lending.{queues_in}
use Rattle.zq_semantics.specs.Plan.{is_there}
use Rattle.zq_words.specs.Words.{views}
use Rattle.zq_commands.proofs.keys_there.read_keys.Given as goal

abbrev pub invariant-loop-key : goal.invariant-loop-key
invariant-loop-key g l = record {
  count : l.count ≡ count_by (λ key. is_there (queues_in (g.B.Books.lent l.books) key)) (take l.key-index (views l.keys));
  few : l.count ≤ l.key-index;
}
