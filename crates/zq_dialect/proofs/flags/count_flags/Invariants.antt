use Rattle.std.proofs.Common.{length, ◌+◌, ◌≡◌}
use Rattle.std.specs.List.{prefix_len}
use Rattle.zq_words.specs.Command.{is_flag}
use Rattle.zq_words.specs.Words.{views}
use Rattle.zq_dialect.proofs.flags.count_flags.Given as goal

abbrev pub invariant-loop-rest : goal.invariant-loop-rest
invariant-loop-rest l = record {
  flags : l.count + prefix_len is_flag (views l.rest) ≡ prefix_len is_flag (views l.words);
  words : l.count + length l.rest ≡ length l.words;
}

abbrev pub decreases-loop-rest : goal.decreases-loop-rest
decreases-loop-rest l = length l.rest
