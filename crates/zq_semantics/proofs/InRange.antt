-- The moves of a command within limits are in range, and their names are short where those of the queues are.

use Rattle.std.proofs.Common.{List, None, Option, Some, [], cond, false, inl, inr, length, nat_eq, subst, true, ℕ, ℤ, ◌++◌, ◌∷◌, ◌≤◌}
use Rattle.std.proofs.lemmas.List.{take-append-drop}
use Rattle.std.proofs.lemmas.List.Elements.{All-head, All-tail}
use Rattle.std.specs.Cmp.Lexicographic.{pointwise}
use Rattle.zq_semantics.specs.Replies.{Error, NullBulk, number_text}
use Rattle.std.specs.Prelude.{All, codes, drop, filter, if◌then◌else◌, is_some, not, take}
use Rattle.zq_model.proofs.Listing.{in_map_from}
use Rattle.zq_model.proofs.Membership.{in_left, in_union}
use Rattle.zq_model.specs.Meaning.{Scored}
use Rattle.zq_model.specs.Operation.{Act, Drop, IsAct, IsWithin, LONGEST, MOST, Put}
use Rattle.zq_model.specs.Sets.{IsIn}
use Rattle.zq_model.proofs.Lists.{in_filter_from}
use Rattle.zq_model.specs.Moves.{Move, Queue, Queues, after, after_all, is_of, score_in}
use Rattle.zq_semantics.specs.Plan.{counts, del_part, drops, lets, moves_in_turn, nothing, one, plan_of, raise, raise_if, raising, reading, sum_of, zadd_part, zrem_part}
use Rattle.zq_semantics.specs.Ranges.{from_zero}
use Rattle.zq_semantics.specs.Books.{AreSound, IsSoundMove}
use Rattle.zq_words.specs.Command.{Command, Del, Ping, Zadd, ZaddIncr, Zcard, Zcount, Zincrby, Zpopmin, Zpopnear, Zrange, Zrank, Zrem, Zrevrank, Zscore}
use Rattle.zq_words.specs.Limits.{IsPair, IsShort, IsWithinLimits}
use Rattle.zq_words.specs.Words.{Word, is_in_range}
use Rattle.zq_words.specs.declared.flags.Flags.{Flags}

-- each member of the queues has a short name
abbrev pub AreShort : Queues → Type 0
AreShort queues = (key : List ℕ) (p : Scored) → IsIn p (queues key) → length p.1 ≤ LONGEST

none_sound : AreSound []
none_sound move none = absurd none

both_sound : (first second : List Move) → AreSound first → AreSound second → AreSound (first ++ second)
both_sound first second a b move i = elim (in_union move first second i) [ inl j ↦ a move j | inr j ↦ b move j ]

one_sound : (key member : Word) (act : Act) → IsShort key → IsShort member → IsAct act → AreSound (one key member act)
one_sound key member act k m is move i = elim i [
  | inl e ↦ subst IsSoundMove e (record { act = is; key = k; member = m })
  | inr none ↦ absurd none
]

drops_sound : (key : Word) (pairs : Queue) → IsShort key → ((p : Scored) → IsIn p pairs → length p.1 ≤ LONGEST) → AreSound (drops key pairs)
drops_sound key pairs k short move i =
    let from = in_map_from (λ (p : Scored). record { key = key; member = p.1; act = Drop }) move pairs i in
    subst IsSoundMove from.2 (record { act = tt; key = k; member = short from.0 from.1 })

-- a Drop leaves no name that was not there
short_after : (key member : Word) (queues : Queues) → AreShort queues → AreShort (after (record { key = key; member = member; act = Drop }) queues)
short_after key member queues short k p =
    elim (pointwise nat_eq key k) as (λ b. IsIn p (cond b (filter (λ q. not (is_of member q)) (queues k)) (queues k)) → length p.1 ≤ LONGEST) [
      | true ↦ λ i. short k p (in_filter_from (λ q. not (is_of member q)) (queues k) p i).0
      | false ↦ λ i. short k p i
    ]

short_dropped : (key : Word) (pairs : Queue) (queues : Queues) → AreShort queues → AreShort (after_all (drops key pairs) queues)
short_dropped key [] queues short = short
short_dropped key (p ∷ pairs) queues short = short_dropped key pairs (after (record { key = key; member = p.1; act = Drop }) queues) (short_after key p.1 queues short)

-- ---- parts

zadd_sound : (key : Word) (flags : Flags) (pairs : List (ℤ × Word)) (queues : Queues) → IsShort key → All IsPair pairs → AreSound (moves_in_turn (zadd_part key flags) pairs queues)
zadd_sound key flags [] queues k each = none_sound
zadd_sound key flags (pair ∷ pairs) queues k each =
    let here : IsPair pair = All-head IsPair pair pairs each in
    both_sound (zadd_part key flags queues pair).moves _
    (elim (lets flags (score_in (queues key) pair.1) pair.0) as (λ b. AreSound (if b then record { moves = one key pair.1 (Put pair.0); is_counted = counts flags (score_in (queues key) pair.1) pair.0 } else nothing).moves) [
      | true ↦ one_sound key pair.1 (Put pair.0) k here.1 here.0
      | false ↦ none_sound
    ])
    (zadd_sound key flags pairs _ k (All-tail IsPair pair pairs each))

zrem_sound : (key : Word) (members : List Word) (queues : Queues) → IsShort key → All IsShort members → AreSound (moves_in_turn (zrem_part key) members queues)
zrem_sound key [] queues k each = none_sound
zrem_sound key (member ∷ members) queues k each =
    both_sound (zrem_part key queues member).moves _
    (elim (is_some (score_in (queues key) member)) as (λ b. AreSound (if b then record { moves = one key member Drop; is_counted = true } else nothing).moves) [
      | true ↦ one_sound key member Drop k (All-head IsShort member members each) tt
      | false ↦ none_sound
    ])
    (zrem_sound key members _ k (All-tail IsShort member members each))

del_sound : (keys : List Word) (queues : Queues) → All IsShort keys → AreShort queues → AreSound (moves_in_turn del_part keys queues)
del_sound [] queues each short = none_sound
del_sound (key ∷ keys) queues each short =
    both_sound (drops key (queues key)) _ (drops_sound key (queues key) (All-head IsShort key keys each) (short key))
    (del_sound keys _ (All-tail IsShort key keys each) (short_dropped key (queues key) queues short))

pop_sound : (key : Word) (n : ℕ) (queues : Queues) → IsShort key → AreShort queues → AreSound (drops key (take n (queues key)))
pop_sound key n queues k short =
    drops_sound key (take n (queues key)) k (λ p i.
    short key p (subst (λ q. IsIn p q) (take-append-drop n (queues key)) (in_left p (take n (queues key)) (drop n (queues key)) i)))

raising_is : (old : Option ℤ) (increment : ℤ) → IsWithin MOST increment → IsAct (raising old increment)
raising_is None increment is = is
raising_is (Some score) increment is = is

raise_sound : (key member : Word) (old : Option ℤ) (increment : ℤ) → IsShort key → IsPair (increment, member) → AreSound (raise key member old increment).moves
raise_sound key member old increment k is =
    elim (is_in_range (sum_of old increment)) as (λ b. AreSound (if b then record { moves = one key member (raising old increment); reply = number_text (sum_of old increment) } else reading (Error (codes "ERR result out of range") None)).moves) [
      | true ↦ one_sound key member (raising old increment) k is.1 (raising_is old increment is.0)
      | false ↦ none_sound
    ]

raise_if_sound : (flags : Flags) (key member : Word) (old : Option ℤ) (increment : ℤ) → IsShort key → IsPair (increment, member) → AreSound (raise_if flags key member old increment).moves
raise_if_sound flags key member old increment k is =
    elim (lets flags old (sum_of old increment)) as (λ b. AreSound (if b then raise key member old increment else reading NullBulk).moves) [
      | true ↦ raise_sound key member old increment k is
      | false ↦ none_sound
    ]

-- ---- commands

pub moves_sound : (command : Command) (queues : Queues) → IsWithinLimits command → AreShort queues → AreSound (plan_of command queues).moves
moves_sound (Ping message) queues is short = none_sound
moves_sound (Zadd key flags pairs) queues is short = zadd_sound key flags pairs queues is.0 is.1
moves_sound (ZaddIncr key flags increment member) queues is short = raise_if_sound flags key member (score_in (queues key) member) increment is.0 is.1
moves_sound (Zincrby key increment member) queues is short = raise_sound key member (score_in (queues key) member) increment is.0 is.1
moves_sound (Zrem key members) queues is short = zrem_sound key members queues is.0 is.1
moves_sound (Zscore key member) queues is short = none_sound
moves_sound (Zcard key) queues is short = none_sound
moves_sound (Zcount key min max) queues is short = none_sound
moves_sound (Zrank key member) queues is short = none_sound
moves_sound (Zrevrank key member) queues is short = none_sound
moves_sound (Zrange key range is_turned with_scores) queues is short = none_sound
moves_sound (Zpopmin key count) queues is short = pop_sound key (from_zero count) queues is.0 short
moves_sound (Zpopnear key) queues is short = pop_sound key 1 queues is short
moves_sound (Del keys) queues is short = del_sound keys queues is.0 short
