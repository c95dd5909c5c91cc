use Rattle.std.proofs.Common.{◌≡◌, length}
use Rattle.std.specs.Option.{option_map}
use Rattle.zq_words.specs.Options.{options_of}
use Rattle.zq_words.specs.OptionsRead.{no_options, read}
use Rattle.zq_words.specs.Words.{views}
use Rattle.zq_words.proofs.options.read_options.Given as goal

abbrev pub invariant-loop-rest : goal.invariant-loop-rest
invariant-loop-rest l = option_map (read no_options) (options_of (views l.words)) ≡ option_map (read l.options) (options_of (views l.rest))

abbrev pub decreases-loop-rest : goal.decreases-loop-rest
decreases-loop-rest l = length l.rest
