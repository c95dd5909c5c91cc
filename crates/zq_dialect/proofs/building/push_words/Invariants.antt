use Rattle.std.proofs.Common.{take, ◌++◌, ◌≡◌}
use Rattle.zq_words.specs.Words.{views}
use Rattle.zq_dialect.proofs.building.push_words.Given as goal

abbrev pub invariant-loop-word : goal.invariant-loop-word
invariant-loop-word l = views l.words.items ≡ views l.fn.words.items ++ views (take l.word-index l.others)
