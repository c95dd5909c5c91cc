use Rattle.std.proofs.Common.{drop, ◌≡◌}
use Rattle.zq_commands.specs.Lending.{queues_in}
use Rattle.zq_semantics.specs.Procedures.{leftmost}
use Rattle.zq_words.specs.Words.{views}
use Rattle.zq_commands.proofs.pop_leftmost.leftmost.Given as goal

abbrev pub invariant-loop-key : goal.invariant-loop-key
invariant-loop-key g l = record {
  rest : leftmost (views l.keys) (queues_in (g.B.Books.lent l.books)) ≡ leftmost (drop l.key-index (views l.keys)) (queues_in (g.B.Books.lent l.books));
}
