-- The limits that each command read keeps.
use Rattle.std.specs.Prelude.{All, length, pos, ℤ, ◌≤◌, ◌≤ℤ◌}
use Rattle.zq_model.specs.Operation.{IsWithin, LONGEST, MOST}
use Rattle.zq_words.specs.Command.{Command, Ping, Zadd, ZaddIncr, Zincrby, Zrem, Zscore, Zcard, Zcount, Zrank, Zrevrank, Zrange, Zpopmin, Zpopnear, Del}
use Rattle.zq_words.specs.Words.{Word}
use Rattle.zq_words.specs.declared.bound.Limit.{Limit}
use Rattle.zq_words.specs.declared.bound.Limit.TheVariants.{Lowest, At, Highest}
use Rattle.zq_words.specs.declared.range.Range.{Range}
use Rattle.zq_words.specs.declared.range.Range.TheVariants.{ByPlace, ByScore}

-- the length of a key or a member
abbrev pub IsShort : Word → Type 0
IsShort word = length word ≤ LONGEST

-- a score in range and a short member
abbrev pub IsPair : ℤ × Word → Type 0
IsPair pair = IsWithin MOST pair.0 × IsShort pair.1

abbrev pub IsLimit : Limit → Type 0
IsLimit Lowest = Unit {0}
IsLimit (At score) = IsWithin MOST score
IsLimit Highest = Unit {0}

abbrev pub IsRange : Range → Type 0
IsRange (ByPlace start stop) = Unit {0}
IsRange (ByScore min max window) = IsLimit min.limit × IsLimit max.limit

-- keys and members are short, scores in range, a count to pop is not negative, and there are no
-- more parts than a request has words
abbrev pub IsWithinLimits : Command → Type 0
IsWithinLimits (Ping message) = Unit {0}
IsWithinLimits (Zadd key flags pairs) = IsShort key × All IsPair pairs × (length pairs ≤ 65536)
IsWithinLimits (ZaddIncr key flags increment member) = IsShort key × IsPair (increment, member)
IsWithinLimits (Zincrby key increment member) = IsShort key × IsPair (increment, member)
IsWithinLimits (Zrem key members) = IsShort key × All IsShort members × (length members ≤ 65536)
IsWithinLimits (Zscore key member) = IsShort key × IsShort member
IsWithinLimits (Zcard key) = IsShort key
IsWithinLimits (Zcount key min max) = IsShort key × IsLimit min.limit × IsLimit max.limit
IsWithinLimits (Zrank key member) = IsShort key × IsShort member
IsWithinLimits (Zrevrank key member) = IsShort key × IsShort member
IsWithinLimits (Zrange key range is_turned with_scores) = IsShort key × IsRange range
IsWithinLimits (Zpopmin key count) = IsShort key × (pos 0 ≤ℤ count)
IsWithinLimits (Zpopnear key) = IsShort key
IsWithinLimits (Del keys) = All IsShort keys × (length keys ≤ 65536)
