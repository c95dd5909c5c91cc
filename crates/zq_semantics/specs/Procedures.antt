-- Procedures: what is run over the queues of a site, and how. Each command is one, and so is each
-- further request on keys. And lists of them that run under one stamp.

use Rattle.std.specs.Prelude.{Bool, List, None, Option, Some, [], codes, count_by, false, flat_map, if◌then◌else◌, length, map, nat_le, reverse, suc, take, true, ℕ, ◌∷◌, ◌≡◌}
use Rattle.zq_model.specs.Books.{Book}
use Rattle.zq_model.specs.Lent.{queues_of}
use Rattle.zq_model.specs.Moves.{Queue, Queues, score_in}
use Rattle.zq_model.specs.Operation.{Operation}
use Rattle.zq_model.specs.Rule.{Rule}
use Rattle.zq_semantics.specs.Plan.{Plan, drops, in_turn, is_there, moves_in_turn, plan_of, reading, zrem_part}
use Rattle.zq_semantics.specs.Ranges.{from_zero, ranged, turned_if}
use Rattle.zq_semantics.specs.Reading.{heaps_in, queues_over}
use Rattle.zq_semantics.specs.Replies.{Bulks, NullArray, Reply, Scores, Simple, bytes_of, count_reply, pairs_reply, parts_of_pair}
use Rattle.zq_semantics.specs.Run.{ForCopies, ForReply, Runs, Takes, UNCOUNTED, Want, cut_error, cut_reply, takes_of}
use Rattle.zq_words.specs.Calls as call
use Rattle.zq_words.specs.Calls.{Call}
use Rattle.zq_words.specs.Command.{Command}
use Rattle.zq_words.specs.Words.{Word}
use Rattle.zq_words.specs.declared.range.Range.{Range}

-- what is run over some queues: its moves and its reply, the reply where the first so many moves
-- stand and no more, and what it takes memory for
pub record Procedure : Type 0 where
  pub plan : Queues → Plan
  pub cut : Queues → ℕ → Want → Reply
  pub takes : Queues → Takes

abbrev pub procedure_of : Command → Procedure
procedure_of command =
    record { plan = plan_of command; cut = cut_reply command; takes = takes_of command }

-- ---- procedures that only read

abbrev pub answering : (Queues → Reply) → Takes → Procedure
answering reply takes =
    record { plan = λ queues. reading (reply queues); cut = λ _. cut_error; takes = λ _. takes }

-- the score of each member
abbrev pub scores_of : Word → List Word → Procedure
scores_of key members =
    answering (λ queues. Scores (map (score_in (queues key)) members)) (ForReply true 0)

-- how many of the keys have members; a key counts as often as it is named
abbrev pub keys_there : List Word → Procedure
keys_there keys =
    answering (λ queues. count_reply (count_by (λ key. is_there (queues key)) keys))
    (ForReply false 0)

abbrev pub type_text : Queue → Word
type_text queue = if is_there queue then codes "zset" else codes "none"

-- whether the key has members
abbrev pub type_of : Word → Procedure
type_of key = answering (λ queues. Simple (type_text (queues key))) (ForReply false 0)

-- ---- procedures that drop pairs

abbrev pub members_of : Queue → List Word
members_of pairs = map (λ pair. pair.1) pairs

-- the last pairs of a queue, the last one first
abbrev pub last_pairs : ℕ → Queue → Queue
last_pairs n queue = take n (reverse queue)

-- the reply of a pop of these pairs of which k moves stand: the first pairs, where there are some
abbrev pub cut_pairs : Queue → ℕ → Want → Reply
cut_pairs pairs (suc k) want = pairs_reply true (take (suc k) pairs)
cut_pairs pairs k want = cut_error k want

-- the last pairs are dropped as ZREM drops their members, and answered with their scores
abbrev pub pop_last : Word → ℕ → Procedure
pop_last key n = record {
  plan = λ queues. record {
    moves = moves_in_turn (zrem_part key) (members_of (last_pairs n (queues key))) queues;
    reply = pairs_reply true (last_pairs n (queues key));
  };
  cut = λ queues. cut_pairs (last_pairs n (queues key));
  takes = λ queues. ForCopies;
}

-- what is taken memory for where the members are copied first: for the copies and before each move.
-- Where there are more members than a number counts, nothing is dropped
abbrev pub takes_found : ℕ → Takes
takes_found members = if nat_le UNCOUNTED members then ForReply true 0 else ForCopies

-- the pairs of a range are dropped as ZREM drops their members, and counted
abbrev pub remove_range : Word → Range → Procedure
remove_range key range = record {
  plan = λ queues. in_turn (zrem_part key) (members_of (ranged range (queues key))) queues;
  cut = λ queues. cut_error;
  takes = λ queues. takes_found (length (queues key));
}

-- the first of these keys that has members
abbrev pub leftmost : List Word → Queues → Option Word
leftmost [] queues = None
leftmost (key ∷ keys) queues = if is_there (queues key) then Some key else leftmost keys queues

-- these pairs of the key are dropped, and answered behind the key
abbrev pub popping : Word → Queue → Plan
popping key pairs =
    record { moves = drops key pairs; reply = Bulks (key ∷ flat_map (parts_of_pair true) pairs) }

-- the first pair of the key's queue, or the last one where it is turned
abbrev pub popping_from : Bool → Option Word → Queues → Plan
popping_from is_turned None queues = reading NullArray
popping_from is_turned (Some key) queues =
    popping key (take 1 (turned_if is_turned (queues key)))

abbrev pub pop_leftmost : List Word → Bool → Procedure
pop_leftmost keys is_turned = record {
  plan = λ queues. popping_from is_turned (leftmost keys queues) queues;
  cut = λ queues. cut_error;
  takes = λ queues. ForCopies;
}

-- ---- what a site can be asked

abbrev pub procedure : Call → Procedure
procedure (call.Plain command) = procedure_of command
procedure (call.Scores key members) = scores_of key members
procedure (call.Exist keys) = keys_there keys
procedure (call.TypeOf key) = type_of key
procedure (call.PopLast key count) = pop_last key (from_zero count)
procedure (call.RemoveRange key range) = remove_range key range
procedure (call.PopLeftmost keys is_turned) = pop_leftmost keys is_turned

-- ---- runs

-- the books and the reply after a procedure
abbrev pub RunsProcedure : Rule → ℕ → ℕ → Procedure → List Book → List Book → Word → Type 0
RunsProcedure rule site stamp p old new reply =
    Runs site stamp (p.takes (queues_of rule old)) (p.plan (queues_of rule old))
    (p.cut (queues_of rule old)) old new reply

-- the books and the replies after procedures, one after the other, each over what those before it
-- left. One that is cut ends itself, and not those behind it
abbrev pub RunsAll : Rule → ℕ → ℕ → List Procedure → List Book → List Book → List Word → Type 0
RunsAll rule site stamp [] old new [] = new ≡ old
RunsAll rule site stamp (p ∷ ps) old new (reply ∷ replies) =
    (mid : List Book) × RunsProcedure rule site stamp p old mid reply
    × RunsAll rule site stamp ps mid new replies
RunsAll rule site stamp ps old new replies = ⊥

-- ---- readings

-- a procedure that makes nothing, whatever the queues are
abbrev pub IsReading : Procedure → Type 0
IsReading p = (queues : Queues) → (p.plan queues).moves ≡ []

abbrev pub AreReading : List Procedure → Type 0
AreReading [] = Unit {0}
AreReading (p ∷ ps) = IsReading p × AreReading ps

-- what a procedure is answered over these queues, where it is not cut
abbrev pub answered_over : Queues → Procedure → Word
answered_over queues p = bytes_of (p.plan queues).reply

-- what a set of operations answers to it, over K heaps
abbrev pub answered_by : Rule → ℕ → List Operation → Procedure → Word
answered_by rule K S p = answered_over (queues_over rule S (heaps_in K)) p
