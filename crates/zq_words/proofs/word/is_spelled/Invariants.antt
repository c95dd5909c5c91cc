use Rattle.std.proofs.Common.{◌≡◌, length, take}
use Rattle.zq_words.proofs.word.is_spelled.Given as goal

abbrev pub invariant-loop-place : goal.invariant-loop-place
invariant-loop-place l = (length l.word ≡ length l.name) × (take l.place l.word ≡ take l.place l.name)
