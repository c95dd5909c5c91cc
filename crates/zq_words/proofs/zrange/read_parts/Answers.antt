use Rattle.std.proofs.Common.{subst}
use Rattle.zq_words.specs.Options.{options_of}
use Rattle.zq_words.specs.Shown.{Reads}
use Rattle.zq_words.specs.Words.{views}
use Rattle.zq_words.proofs.OptionsMeant.{range_read}
use Rattle.zq_words.proofs.zrange.read_parts.Goals as goal

pub returns-in-Some : goal.returns-in-Some
returns-in-Some c =
    subst (Reads c.read_ranged.result)
    (range_read c.args.key.now c.args.first.now c.args.second.now (options_of (views c.args.words.now)) c.in-Some.options c.in-Some.ensures) c.read_ranged.ensures
