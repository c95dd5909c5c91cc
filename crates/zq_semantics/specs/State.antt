-- What the sites of a world have: the set of operations that each has taken, and of each of its
-- heaps the stamp and the count.

use Rattle.std.specs.Prelude.{Bool, List, [], if◌then◌else◌, max, nat_le, slice_index, suc, zero, ℕ, ◌+◌, ◌++◌, ◌==◌, ◌∷◌, ◌||◌}
use Rattle.zq_model.specs.Heaps.{heap_of}
use Rattle.zq_model.specs.Operation.{Operation, operation_over}
use Rattle.zq_model.specs.Sets.{LAST, vector_of}
use Rattle.zq_model.specs.Moves.{Move}
use Rattle.zq_semantics.specs.Run.{LAST_COUNT}

-- a number for each site and heap
abbrev pub Numbers : Type 0
Numbers = ℕ → ℕ → ℕ

-- each site's set
abbrev pub Sets : Type 0
Sets = ℕ → List Operation

pub record State : Type 0 where
  -- each operation that was made, the oldest first
  pub made : List Operation
  pub sets : Sets
  pub stamps : Numbers
  pub counts : Numbers

-- f, with x at i
abbrev pub with_at : {X : Type 0} → (ℕ → X) → ℕ → X → ℕ → X
with_at f i x j = if j == i then x else f j

abbrev pub with_number : Numbers → ℕ → ℕ → ℕ → Numbers
with_number f site heap n = with_at f site (with_at (f site) heap n)

-- what the site's next record or merge in the heap leaves, which gives it this set
abbrev pub counted : State → ℕ → ℕ → ℕ → List Operation → List Operation → State
counted st site heap stamp made S = record {
  made = made;
  sets = with_at st.sets site S;
  stamps = with_number st.stamps site heap stamp;
  counts = with_number st.counts site heap (st.counts site heap + 1);
}

-- the greatest of f 0 .. f (n - 1), and 0 for none
abbrev pub greatest : ℕ → (ℕ → ℕ) → ℕ
greatest zero f = 0
greatest (suc n) f = max (f n) (greatest n f)

-- the stamp of a site's next event, of K heaps
abbrev pub next_stamp : ℕ → State → ℕ → ℕ
next_stamp K st site = greatest K (st.stamps site) + 1

-- one of the site's stamps is at its last value, which is also that of a count
abbrev pub is_worn : ℕ → State → ℕ → Bool
is_worn K st site = nat_le LAST_COUNT (greatest K (st.stamps site))

-- the count of the site's heap is at its last value
abbrev pub is_full : State → ℕ → ℕ → Bool
is_full st site heap = nat_le LAST_COUNT (st.counts site heap)

-- ---- moves

-- the heap of a move, of K
abbrev pub home_of : ℕ → Move → ℕ
home_of K move = heap_of move.key move.member K

-- a number that the site needs for one more operation in the heap is at its last value
abbrev pub is_spent : State → ℕ → ℕ → Bool
is_spent st site heap =
    nat_le LAST (slice_index (vector_of (st.sets site) heap) site) || is_full st site heap

-- the operation that a site makes of a move in the heap
abbrev pub operation_by : State → ℕ → ℕ → Move → Operation
operation_by st site heap move =
    operation_over heap (vector_of (st.sets site) heap) site move.key move.member move.act

abbrev pub after_making : State → ℕ → Operation → State
after_making st stamp o = counted st o.site o.heap stamp (st.made ++ o ∷ []) (o ∷ st.sets o.site)

abbrev pub after_move : ℕ → ℕ → ℕ → Move → State → State
after_move K site stamp move st = after_making st stamp (operation_by st site (home_of K move) move)

-- the state after these moves of a site, one after the other
abbrev pub after_moves : ℕ → ℕ → ℕ → List Move → State → State
after_moves K site stamp [] st = st
after_moves K site stamp (move ∷ moves) st =
    after_moves K site stamp moves (after_move K site stamp move st)

-- how many of the moves stand: those before the first for which a number is at its last value
abbrev pub standing : ℕ → ℕ → ℕ → List Move → State → ℕ
standing K site stamp [] st = 0
standing K site stamp (move ∷ moves) st =
    if is_spent st site (home_of K move) then 0 else suc
    (standing K site stamp moves (after_move K site stamp move st))
