use Rattle.std.proofs.Common.{drop, ◌≡◌}
use Rattle.zq_serve.proofs.queue.weight_of.Given as goal
use Rattle.zq_serve.specs.Queues.{weight_behind, weight_of}
use Rattle.zq_words.specs.Words.{views}

abbrev pub invariant-loop-word : goal.invariant-loop-word
invariant-loop-word l = weight_behind l.bytes (views (drop l.word-index l.words)) ≡ weight_of (views l.words)
