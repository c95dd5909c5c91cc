use Rattle.std.proofs.Common.{length, ◌≡◌}
use Rattle.zq_client.proofs.options.read_options.Given as goal
use Rattle.zq_client.specs.Options.{options_from, options_of}
use Rattle.zq_client.specs.OptionsRead.{shown}
use Rattle.zq_words.specs.Words.{views}

abbrev pub invariant-loop-rest : goal.invariant-loop-rest
invariant-loop-rest l = options_of (views l.words) ≡ options_from (shown l.options) (views l.rest)

abbrev pub decreases-loop-rest : goal.decreases-loop-rest
decreases-loop-rest l = length l.rest
