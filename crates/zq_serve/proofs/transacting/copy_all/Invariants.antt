use Rattle.std.proofs.Common.{take, ◌++◌, ◌≡◌}
use Rattle.zq_serve.proofs.transacting.copy_all.Given as goal
use Rattle.zq_words.specs.Words.{views}

abbrev pub invariant-loop-word : goal.invariant-loop-word
invariant-loop-word l = views l.to.items ≡ views l.initial.to.items ++ views (take l.word-index l.words)
