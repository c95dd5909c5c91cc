-- What each command makes of the queues, and its reply.

use Rattle.std.specs.Prelude.{Bool, List, None, Option, Some, [], codes, count_by, false, if◌then◌else◌, int_lt, is_some, length, map, not, pos, take, true, unwrap_or, ℕ, ℤ, ◌&&◌, ◌+ℤ◌, ◌++◌, ◌+◌, ◌||◌, ◌∷◌}
use Rattle.zq_model.specs.Operation.{Act, Bump, Drop, Put}
use Rattle.zq_model.specs.Moves.{Move, Queue, Queues, after_all, score_in}
use Rattle.zq_semantics.specs.Ranges.{from_zero, is_within, ranged, turned_if}
use Rattle.zq_model.specs.Readings.{rank_in, turned_rank_in}
use Rattle.zq_semantics.specs.Replies.{Error, NullBulk, Reply, count_reply, number_text, pairs_reply, ping_reply, place_reply, score_reply}
use Rattle.zq_words.specs.Command.{Command, Del, Ping, Zadd, ZaddIncr, Zcard, Zcount, Zincrby, Zpopmin, Zpopnear, Zrange, Zrank, Zrem, Zrevrank, Zscore}
use Rattle.zq_words.specs.Words.{Word, is_in_range}
use Rattle.zq_words.specs.declared.flags.Flags.{Flags}

-- what one part of a command makes: its moves, and whether the reply counts it
pub record Part : Type 0 where
  pub moves : List Move
  pub is_counted : Bool

-- the moves of a command, and its reply
pub record Plan : Type 0 where
  pub moves : List Move
  pub reply : Reply

-- ---- parts

-- the moves of the parts from left to right, each on what those before left
abbrev pub moves_in_turn : {X : Type 0} → (Queues → X → Part) → List X → Queues → List Move
moves_in_turn f [] queues = []
moves_in_turn f (x ∷ xs) queues = (f queues x).moves
    ++ moves_in_turn f xs (after_all (f queues x).moves queues)

-- the number of the parts that count
abbrev pub count_in_turn : {X : Type 0} → (Queues → X → Part) → List X → Queues → ℕ
count_in_turn f [] queues = 0
count_in_turn f (x ∷ xs) queues = (if (f queues x).is_counted then 1 else 0)
    + count_in_turn f xs (after_all (f queues x).moves queues)

abbrev pub in_turn : {X : Type 0} → (Queues → X → Part) → List X → Queues → Plan
in_turn f xs queues =
    record { moves = moves_in_turn f xs queues; reply = count_reply (count_in_turn f xs queues) }

abbrev pub nothing : Part
nothing = record { moves = []; is_counted = false }

abbrev pub one : Word → Word → Act → List Move
one key member act = record { key = key; member = member; act = act } ∷ []

-- whether the flags let a member that has this score, where it is there, have the new one
abbrev pub lets : Flags → Option ℤ → ℤ → Bool
lets flags None new = not flags.xx
lets flags (Some old) new =
    not flags.nx && ((not flags.gt || int_lt old new) && (not flags.lt || int_lt new old))

-- a member that was not there, and with CH also one whose score changes
abbrev pub counts : Flags → Option ℤ → ℤ → Bool
counts flags None new = true
counts flags (Some old) new = flags.ch && (int_lt old new || int_lt new old)

abbrev pub zadd_part : Word → Flags → Queues → ℤ × Word → Part
zadd_part key flags queues pair =
    if lets flags (score_in (queues key) pair.1) pair.0
    then record { moves = one key pair.1 (Put pair.0); is_counted = counts flags (score_in (queues key) pair.1) pair.0 }
    else nothing

abbrev pub zrem_part : Word → Queues → Word → Part
zrem_part key queues member =
    if is_some (score_in (queues key) member) then
    record { moves = one key member Drop; is_counted = true } else nothing

abbrev pub drops : Word → Queue → List Move
drops key pairs = map (λ pair. record { key = key; member = pair.1; act = Drop }) pairs

abbrev pub is_there : Queue → Bool
is_there [] = false
is_there (pair ∷ queue) = true

abbrev pub del_part : Queues → Word → Part
del_part queues key = record { moves = drops key (queues key); is_counted = is_there (queues key) }

-- ---- plans

abbrev pub reading : Reply → Plan
reading reply = record { moves = []; reply = reply }

-- the first pairs are dropped, and answered with their scores
abbrev pub pop : Word → ℕ → Queues → Plan
pop key n queues = record { moves = drops key (take n (queues key)); reply = pairs_reply true (take n (queues key)) }

-- a Bump where the member is there, else a Put
abbrev pub raising : Option ℤ → ℤ → Act
raising None increment = Put increment
raising (Some old) increment = Bump increment

abbrev pub sum_of : Option ℤ → ℤ → ℤ
sum_of old increment = unwrap_or old (pos 0) +ℤ increment

abbrev pub raise : Word → Word → Option ℤ → ℤ → Plan
raise key member old increment =
    if is_in_range (sum_of old increment)
    then record { moves = one key member (raising old increment); reply = number_text (sum_of old increment) }
    else reading (Error (codes "ERR result out of range") None)

abbrev pub raise_if : Flags → Word → Word → Option ℤ → ℤ → Plan
raise_if flags key member old increment =
    if lets flags old (sum_of old increment) then raise key member old increment else reading
    NullBulk

abbrev pub plan_of : Command → Queues → Plan
plan_of (Ping message) queues = reading (ping_reply message)
plan_of (Zadd key flags pairs) queues = in_turn (zadd_part key flags) pairs queues
plan_of (ZaddIncr key flags increment member) queues =
    raise_if flags key member (score_in (queues key) member) increment
plan_of (Zincrby key increment member) queues =
    raise key member (score_in (queues key) member) increment
plan_of (Zrem key members) queues = in_turn (zrem_part key) members queues
plan_of (Zscore key member) queues = reading (score_reply (score_in (queues key) member))
plan_of (Zcard key) queues = reading (count_reply (length (queues key)))
plan_of (Zcount key min max) queues =
    reading (count_reply (count_by (is_within min max) (queues key)))
plan_of (Zrank key member) queues = reading (place_reply (rank_in (queues key) member))
plan_of (Zrevrank key member) queues = reading (place_reply (turned_rank_in (queues key) member))
plan_of (Zrange key range is_turned with_scores) queues =
    reading (pairs_reply with_scores (ranged range (turned_if is_turned (queues key))))
plan_of (Zpopmin key count) queues = pop key (from_zero count) queues
plan_of (Zpopnear key) queues = pop key 1 queues
plan_of (Del keys) queues = in_turn del_part keys queues
