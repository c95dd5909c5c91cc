-- What running a command over the books that are lent needs and comes to.

use Rattle.std.specs.Prelude.{All, Bool, false, true, ℕ}
use Rattle.zq_commands.specs.Lending.{HasBook, Lending, queues_in}
use Rattle.zq_commands.specs.Running.{EndsOver}
use Rattle.zq_semantics.specs.Plan.{plan_of}
use Rattle.zq_semantics.specs.Run.{cut_reply, takes_of}
use Rattle.zq_words.specs.Command.{Command, Ping, Zadd, ZaddIncr, Zcard, Zcount, Zincrby, Zrange, Zrank, Zrem, Zrevrank, Zscore}
use Rattle.zq_words.specs.Words.{Word}

-- each member that the command names lies in one of the heaps
abbrev pub HasBooks : Command → Lending → Type 0
HasBooks (Zadd key flags pairs) lent = All (λ pair. HasBook key pair.1 lent) pairs
HasBooks (ZaddIncr key flags increment member) lent = HasBook key member lent
HasBooks (Zincrby key increment member) lent = HasBook key member lent
HasBooks (Zrem key members) lent = All (λ member. HasBook key member lent) members
HasBooks (Zscore key member) lent = HasBook key member lent
HasBooks (Zrank key member) lent = HasBook key member lent
HasBooks (Zrevrank key member) lent = HasBook key member lent
HasBooks command lent = Unit {0}

-- the commands that make nothing
abbrev pub is_reading : Command → Bool
is_reading (Ping message) = true
is_reading (Zscore key member) = true
is_reading (Zcard key) = true
is_reading (Zcount key min max) = true
is_reading (Zrank key member) = true
is_reading (Zrevrank key member) = true
is_reading (Zrange key range is_turned with_scores) = true
is_reading command = false

-- the command's plan runs over the books, whole or in part, and only what is short was cut for want
-- of memory
abbrev pub IsRunOver : ℕ → ℕ → Command → Lending → Lending → Word → Bool → Type 0
IsRunOver site stamp command old new reply short =
    EndsOver site stamp (takes_of command (queues_in old)) (plan_of command (queues_in old))
    (cut_reply command (queues_in old)) old new reply short
