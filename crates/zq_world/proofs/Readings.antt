-- A request that only reads is a command that makes nothing.

use Rattle.std.proofs.Common.{List, Ok, refl, sym, true, true≢false, ◌≡◌}
use Rattle.zq_commands.specs.Commands as commands
use Rattle.zq_semantics.proofs.Questions.{questions_read}
use Rattle.zq_semantics.specs.Reading.{is_question, is_reading}
use Rattle.zq_words.specs.Command.{Command, Del, Ping, Zadd, ZaddIncr, Zcard, Zcount, Zincrby, Zpopmin, Zpopnear, Zrange, Zrank, Zrem, Zrevrank, Zscore, command_of}
use Rattle.zq_words.specs.Words.{Word}

makes_nothing : (command : Command) → is_reading command ≡ true → commands.is_reading command ≡ true
makes_nothing (Ping message) reads = refl
makes_nothing (Zscore key member) reads = refl
makes_nothing (Zcard key) reads = refl
makes_nothing (Zcount key min max) reads = refl
makes_nothing (Zrank key member) reads = refl
makes_nothing (Zrevrank key member) reads = refl
makes_nothing (Zrange key range is_turned with_scores) reads = refl
makes_nothing (Zadd key flags pairs) reads = absurd (true≢false (sym reads))
makes_nothing (ZaddIncr key flags increment member) reads = absurd (true≢false (sym reads))
makes_nothing (Zincrby key increment member) reads = absurd (true≢false (sym reads))
makes_nothing (Zrem key members) reads = absurd (true≢false (sym reads))
makes_nothing (Zpopmin key count) reads = absurd (true≢false (sym reads))
makes_nothing (Zpopnear key) reads = absurd (true≢false (sym reads))
makes_nothing (Del keys) reads = absurd (true≢false (sym reads))

pub reading_too : (words : List Word) (command : Command) → is_question words ≡ true → command_of words ≡ Ok command → commands.is_reading command ≡ true
reading_too words command question read = makes_nothing command (questions_read words command question read)
