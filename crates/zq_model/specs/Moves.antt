-- Moves, and what they make of queues. A queue is a list of members with their scores, by score and
-- then by bytes.

use Rattle.std.specs.BTreeSet.{insert_key}
use Rattle.std.specs.Cmp.Lexicographic.{pointwise}
use Rattle.std.specs.Prelude.{Bool, List, None, Option, Some, [], filter, find, if◌then◌else◌, nat_eq, not, option_map, ℕ, ℤ, ◌+ℤ◌, ◌∷◌}
use Rattle.zq_model.specs.Meaning.{Scored, scored_cmp}
use Rattle.zq_model.specs.Operation.{Act, Bump, Drop, Put}

abbrev pub Queue : Type 0
Queue = List Scored

-- the queue of each key
abbrev pub Queues : Type 0
Queues = List ℕ → Queue

-- an act on a member of a key
pub record Move : Type 0 where
  pub key : List ℕ
  pub member : List ℕ
  pub act : Act

abbrev pub is_of : List ℕ → Scored → Bool
is_of member p = pointwise nat_eq p.1 member

-- a member's score, where it is there
abbrev pub score_in : Queue → List ℕ → Option ℤ
score_in queue member = option_map (λ p. p.0) (find (is_of member) queue)

abbrev pub without : Queue → List ℕ → Queue
without queue member = filter (λ p. not (is_of member p)) queue

-- the queue with the member at this score, and at no other
abbrev pub with_score : Queue → List ℕ → ℤ → Queue
with_score queue member score = insert_key scored_cmp (without queue member) (score, member)

-- the queue with a member that had this score raised; a member that is not there stays away
abbrev pub raised : Queue → List ℕ → ℤ → Option ℤ → Queue
raised queue member increment None = queue
raised queue member increment (Some score) = with_score queue member (score +ℤ increment)

abbrev pub after_act : Act → Queue → List ℕ → Queue
after_act (Put score) queue member = with_score queue member score
after_act (Bump increment) queue member = raised queue member increment (score_in queue member)
after_act Drop queue member = without queue member

-- the queues after a move: its key's is changed, and no other
abbrev pub after : Move → Queues → Queues
after move queues = λ key. if pointwise nat_eq move.key key then after_act move.act
    (queues key) move.member else queues key

abbrev pub after_all : List Move → Queues → Queues
after_all [] queues = queues
after_all (move ∷ moves) queues = after_all moves (after move queues)
