-- The answer and the books after a command: all that it plans, or a cut of it.

use Rattle.std.specs.List.{list_any}
use Rattle.std.specs.Prelude.{Bool, None, Option, Some, List, codes, false, if◌then◌else◌, length, nat_le, not, slice_get, slice_index, suc, take, true, ℕ, ◌==◌, ◌||◌, ◌≡◌, ◌≤◌, ◌⊎◌}
use Rattle.zq_model.specs.Books.{Book}
use Rattle.zq_model.specs.Rule.{Rule}
use Rattle.zq_model.specs.Sets.{LAST}
use Rattle.zq_model.specs.Lent.{books_after, is_home, queues_of}
use Rattle.zq_model.specs.Moves.{Move, Queues}
use Rattle.zq_semantics.specs.Plan.{Plan, is_there, plan_of}
use Rattle.zq_semantics.specs.Ranges.{from_zero, ranged, turned_if}
use Rattle.zq_semantics.specs.Replies.{Error, Reply, bytes_of, pairs_reply}
use Rattle.zq_words.specs.Command.{Command, Del, Ping, Zadd, ZaddIncr, Zcard, Zcount, Zincrby, Zpopmin, Zpopnear, Zrange, Zrank, Zrem, Zrevrank, Zscore}
use Rattle.zq_words.specs.Words.{Word}

-- why a command is cut: for want of memory, or since a number that its book needs is at its last
-- value
pub data Want : Type 0 where
  Memory : Want
  Number : Want

abbrev pub cut_text : Want → Word
cut_text Memory = codes "OOM after"
cut_text Number = codes "ERR worn after"

-- the key and the number of pairs of a command that pops
abbrev pub popped_of : Command → Option (Word × ℕ)
popped_of (Zpopmin key count) = Some (key, from_zero count)
popped_of (Zpopnear key) = Some (key, 1)
popped_of command = None

-- the error of a command of which k moves stand
abbrev pub cut_error : ℕ → Want → Reply
cut_error k want = Error (cut_text want) (Some k)

-- a pop that dropped a pair answers what it dropped
abbrev pub cut_pop : Option (Word × ℕ) → Queues → ℕ → Want → Reply
cut_pop (Some popped) queues (suc k) want = pairs_reply true (take (suc k) (queues popped.0))
cut_pop popped queues k want = cut_error k want

-- the reply where the first k moves stand and no more
abbrev pub cut_reply : Command → Queues → ℕ → Want → Reply
cut_reply command queues k want = cut_pop (popped_of command) queues k want

-- the last count of a book
abbrev pub LAST_COUNT : ℕ
LAST_COUNT = 4611686018427387904

-- a number that the book needs for one more operation of the site is at its last value
abbrev pub is_worn : ℕ → Book → Bool
is_worn site book = (slice_index book.state.vector site == LAST) || (book.count == LAST_COUNT)

-- why a move was not made
abbrev pub IsWhy : ℕ → Option Move → List Book → Want → Type 0
IsWhy site next books Memory = Unit {0}
IsWhy site None books Number = ⊥
IsWhy site (Some move) books Number =
    list_any (λ book. if is_home move book then is_worn site book else false) books ≡ true

-- what a command takes memory for
pub data Takes : Type 0 where
  -- what its moves make
  ForMoves : Takes
  -- and before each move a copy of the member that it drops
  ForCopies : Takes
  -- its reply, where that is long; so many members it counts
  ForReply : (is_long : Bool) → (counted : ℕ) → Takes

-- a text of at most 16 bytes lies in the reply itself
abbrev pub is_long : Option Word → Bool
is_long None = false
is_long (Some text) = not (nat_le (length text) 16)

abbrev pub takes_of : Command → Queues → Takes
takes_of (Ping message) queues = ForReply (is_long message) 0
takes_of (Zadd key flags pairs) queues = ForMoves
takes_of (ZaddIncr key flags increment member) queues = ForMoves
takes_of (Zincrby key increment member) queues = ForMoves
takes_of (Zrem key members) queues = ForMoves
takes_of (Zscore key member) queues = ForReply false 0
takes_of (Zcard key) queues = ForReply false (length (queues key))
takes_of (Zcount key min max) queues = ForReply false (length (queues key))
takes_of (Zrank key member) queues = ForReply false (length (queues key))
takes_of (Zrevrank key member) queues = ForReply false (length (queues key))
takes_of (Zrange key range is_turned with_scores) queues =
    ForReply (is_there (ranged range (turned_if is_turned (queues key)))) (length (queues key))
takes_of (Zpopmin key count) queues = ForCopies
takes_of (Zpopnear key) queues = ForCopies
takes_of (Del keys) queues = ForCopies

-- no reply has a number of so many members, 2 to the 63rd; it is answered as want of memory is
abbrev pub UNCOUNTED : ℕ
UNCOUNTED = 9223372036854775808

-- a reading may find no memory for a long reply alone
abbrev pub IsReadShort : Bool → ℕ → Type 0
IsReadShort is_long counted = (is_long ≡ true) ⊎ (UNCOUNTED ≤ counted)

-- where a command may find no memory: before a move, and unless it copies a member first, before
-- one that its book is not worn for; one that only reads, for its reply
abbrev pub MayLack : Takes → ℕ → Option Move → List Book → Type 0
MayLack (ForReply is_long counted) site next books = IsReadShort is_long counted
MayLack takes site None books = ⊥
MayLack ForMoves site (Some move) books = IsWhy site (Some move) books Number → ⊥
MayLack ForCopies site (Some move) books = Unit {0}

-- why the next move was not made, or the reply not given
abbrev pub IsWhyOf : Takes → ℕ → Option Move → List Book → Want → Type 0
IsWhyOf takes site next books Memory = MayLack takes site next books
IsWhyOf takes site next books Number = IsWhy site next books Number

-- how a plan runs: the books before and after, and the bytes of the reply
pub data Runs (site stamp : ℕ) (takes : Takes) (plan : Plan) (cut : ℕ → Want →
    Reply) (old new : List Book) (reply : Word) : Type 0 where
  whole : new ≡ books_after site stamp plan.moves old → reply ≡ bytes_of plan.reply →
      Runs site stamp takes plan cut old new reply
  part : (k : ℕ) → (want : Want) → k ≤ length plan.moves →
      new ≡ books_after site stamp (take k plan.moves) old →
      IsWhyOf takes site (slice_get plan.moves k) new want → reply ≡ bytes_of (cut k want) →
      Runs site stamp takes plan cut old new reply

-- the books and the reply after a command
abbrev pub IsRun : Rule → ℕ → ℕ → Command → List Book → List Book → Word → Type 0
IsRun rule site stamp command old new reply =
    Runs site stamp (takes_of command (queues_of rule old)) (plan_of command (queues_of rule old))
    (cut_reply command (queues_of rule old)) old new reply
