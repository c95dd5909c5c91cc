-- What commands in memory are, apart from where their words lie.
use Rattle.std.specs.Prelude.{◌≡◌, Bool, IsTrue, true, false, List, ℤ, map, Option, Some, Result, Ok, Err, [], ◌∷◌}
use Rattle.std.specs.Option.{option_map}
use Rattle.zq_words.specs.Command.{Command, Ping, Zadd, ZaddIncr, Zincrby, Zrem, Zscore, Zcard, Zcount, Zrank, Zrevrank, Zrange, Zpopmin, Zpopnear, Del, Reading}
use Rattle.zq_words.specs.Words.{Word, views}
use Rattle.zq_words.specs.declared.kind.Kind.{Kind}
use Rattle.zq_words.specs.declared.kind.Kind.TheVariants as kind
use Rattle.zq_words.specs.declared.pair.Pair.{Pair}
use Rattle.zq_words.specs.declared.pairs.Pairs.{Pairs}
use Rattle.zq_words.specs.declared.pairs.Pairs.TheVariants.{One, Many}
use Rattle.zq_words.specs.declared.refused.Refused.{Refused}
use Rattle.zq_words.specs.declared.refused.Refused.TheVariants.{NoMemory}

abbrev pub pair_shown : Pair → ℤ × Word
pair_shown pair = (pair.score, pair.member.now)

abbrev pub pairs_in : Pairs → List Pair
pairs_in (One pair) = pair ∷ []
pairs_in (Many pairs) = pairs.items

abbrev pub pairs_shown : Pairs → List (ℤ × Word)
pairs_shown pairs = map pair_shown (pairs_in pairs)

abbrev pub shown : Kind → Command
shown (kind.Ping message) = Ping (option_map (λ m. m.now) message)
shown (kind.Zadd key pairs flags) = Zadd key.now flags (pairs_shown pairs)
shown (kind.ZaddIncr key pair flags) = ZaddIncr key.now flags pair.score pair.member.now
shown (kind.Zincrby key pair) = Zincrby key.now pair.score pair.member.now
shown (kind.Zrem key members) = Zrem key.now (views members.now)
shown (kind.Zscore key member) = Zscore key.now member.now
shown (kind.Zcard key) = Zcard key.now
shown (kind.Zcount key min max) = Zcount key.now min max
shown (kind.Zrank key member) = Zrank key.now member.now
shown (kind.Zrevrank key member) = Zrevrank key.now member.now
shown (kind.Zrange key range is_turned with_scores) = Zrange key.now range is_turned with_scores
shown (kind.Zpopmin key count) = Zpopmin key.now count
shown (kind.Zpopnear key) = Zpopnear key.now
shown (kind.Del keys) = Del (views keys.now)

-- the pairs of a ZADD, where they are two or more
abbrev pub are_several : Option (List (ℤ × Word)) → Bool
are_several (Some (a ∷ b ∷ pairs)) = true
are_several _ = false

-- the one command that takes memory: ZADD of several pairs
abbrev pub takes_memory : Reading → Bool
takes_memory (Ok (Zadd key flags pairs)) = are_several (Some pairs)
takes_memory _ = false

-- A call that refused refused for the first reason, and for want of memory only a command that
-- takes some.
abbrev pub IsRefusal : Refused → Reading → Type 0
IsRefusal NoMemory reading = IsTrue (takes_memory reading)
IsRefusal refused reading = reading ≡ Err refused

abbrev pub Reads : Result Kind Refused → Reading → Type 0
Reads (Ok kind) reading = reading ≡ Ok (shown kind)
Reads (Err refused) reading = IsRefusal refused reading
