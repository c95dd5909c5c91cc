-- The order of members with scores, and what the heap keeps of it.
use Rattle.std.specs.Int.{int_max, int_min}
use Rattle.std.specs.Prelude.{Bool, List, nat_eq, neg_ℤ, pos, ℕ, ℤ, [], map, slice_index_or}
use Rattle.std.specs.Cmp.Lexicographic.{pointwise, slice_cmp}
use Rattle.std.specs.Ordering.{int_cmp, nat_cmp, on, then_cmp}
use Rattle.std.specs.declared.cmp.Ordering.{Ordering}
use Rattle.zq_posheap.specs.declared.heap.Slot.{Slot}

-- a member with its score
abbrev pub Scored : Type 0
Scored = ℤ × List ℕ

-- by score, and then by the member's bytes
abbrev pub scored_cmp : Scored → Scored → Ordering
scored_cmp = then_cmp (on (λ x. x.0) int_cmp) (on (λ x. x.1) (slice_cmp nat_cmp))

-- the same order, the last first
abbrev pub turned_cmp : Scored → Scored → Ordering
turned_cmp x y = scored_cmp y x

-- members are equal where their bytes are
abbrev pub same_key : List ℕ → List ℕ → Bool
same_key = pointwise nat_eq

-- the number of 64 bits that is nearest to a score
abbrev pub near : ℤ → ℤ
near score = int_max (neg_ℤ (pos 9223372036854775808)) (int_min score (pos 9223372036854775807))

-- what stands where there is no member
abbrev pub nobody : Scored
nobody = (pos 0, [])

-- the member of a slot with its score, among those of the map
abbrev pub scored_at : List Scored → Slot → Scored
scored_at pairs s = slice_index_or pairs s.index nobody

-- the members with their scores, in the order of the heap
abbrev pub scored_slots : List Scored → List Slot → List Scored
scored_slots pairs slots = map (scored_at pairs) slots
