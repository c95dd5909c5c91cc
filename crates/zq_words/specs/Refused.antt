-- The texts of refusals.
use Rattle.std.specs.Prelude.{codes}
use Rattle.zq_words.specs.Words.{Word}
use Rattle.zq_words.specs.declared.refused.Refused.{Refused}
use Rattle.zq_words.specs.declared.refused.Refused.TheVariants as refused

abbrev pub refused_text : Refused → Word
refused_text refused.Unknown = codes "ERR unknown command"
refused_text refused.Words = codes "ERR wrong number of arguments"
refused_text refused.Syntax = codes "ERR syntax error"
refused_text refused.Flags = codes "ERR flags exclude each other"
refused_text refused.OnePair = codes "ERR INCR takes one pair"
refused_text refused.Score = codes "ERR score is not a whole number in range"
refused_text refused.Whole = codes "ERR value is not an integer"
refused_text refused.Negative = codes "ERR count is negative"
refused_text refused.Bound = codes "ERR min or max is not a bound"
refused_text refused.NoMemory = codes "OOM after 0"
