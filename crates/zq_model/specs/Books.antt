-- A book: the image of one heap, with the rule of its scores and the records that lead from an
-- older image to it.

use Rattle.std.specs.Cmp.Lexicographic.{pointwise}
use Rattle.std.specs.List.{list_all}
use Rattle.std.specs.Prelude.{Bool, List, Option, Some, [], drop, int_le, length, map, nat_eq, nat_le, nat_lt, neg_ℤ, not, pos, slice_index, take, true, ℕ, ℤ, ◌&&◌, ◌++◌, ◌+◌, ◌==◌, ◌∷◌, ◌≡◌, ◌≤◌}
use Rattle.zq_model.specs.Limits.{TailLimits}
use Rattle.zq_model.specs.Heaps.{heap_of}
use Rattle.zq_model.specs.Image.{Image, image_after, join}
use Rattle.zq_model.specs.Operation.{Act, Bump, Drop, MOST, Operation, Put, has}
use Rattle.zq_model.specs.Rule.{Rule}
use Rattle.zq_model.specs.Sets.{LAST, SITES, covers}

-- an operation that was made here, or made elsewhere and new here
pub data Change : Type 0 where
  Made : (o : Operation) → Change
  Took : (o : Operation) → Change

pub record Record : Type 0 where
  pub stamp : ℕ
  pub change : Change

pub record Book : Type 0 where
  pub heap : ℕ
  pub heaps : ℕ
  pub rule : Rule
  pub base : Image
  pub state : Image
  pub tail : List Record
  pub stamp : ℕ
  pub count : ℕ
  pub limits : TailLimits
  -- how many of its steps, by their count, were handed on, so that what they left in the tail may be
  -- cut; none: all may be
  pub handed : Option ℕ

-- a step of a book's history: a record, the merge of another image, the word that so many steps were
-- handed on, or another image in place of the book's own
pub data Step : Type 0 where
  Recorded : (r : Record) → Step
  Merged : (stamp : ℕ) → (other : Image) → Step
  HandedOn : (stamp handed : ℕ) → Step
  TookOver : (stamp : ℕ) → (other : Image) → Step

abbrev pub operation_of : Change → Operation
operation_of (Made o) = o
operation_of (Took o) = o

abbrev pub stamp_of : Step → ℕ
stamp_of (Recorded r) = r.stamp
stamp_of (Merged stamp other) = stamp
stamp_of (HandedOn stamp handed) = stamp
stamp_of (TookOver stamp other) = stamp

abbrev pub is_within : ℤ → Bool
is_within x = int_le (neg_ℤ (pos MOST)) x && int_le x (pos MOST)

abbrev pub is_act : Act → Bool
is_act (Put score) = is_within score
is_act (Bump increment) = is_within increment
is_act Drop = true

-- there is a counter for each site
abbrev pub is_wide : List ℕ → Bool
is_wide v = length v == SITES

abbrev pub are_counters : List ℕ → Bool
are_counters v = is_wide v && list_all (λ n. nat_le n LAST) v

-- an operation among K heaps: it lies where its member's hash says, its number is the next of its
-- site after those that it has seen, and what it puts or adds is in range
abbrev pub is_operation : ℕ → Operation → Bool
is_operation K o =
    nat_le 1 K && (nat_le K 16 &&
    (is_act o.act && ((o.heap == heap_of o.key o.member K) && (nat_lt o.site SITES
    && (are_counters o.seen && ((o.n == slice_index o.seen o.site + 1) && nat_le o.n LAST))))))

-- what a site of the vector v makes has seen v
abbrev pub is_made_over : List ℕ → Operation → Bool
is_made_over v o = pointwise nat_eq o.seen v

-- what is new to a site of the vector v
abbrev pub is_new_to : List ℕ → Operation → Bool
is_new_to v o = not (has v o.site o.n) && covers v o.seen

abbrev pub is_over : List ℕ → Change → Bool
is_over v (Made o) = is_made_over v o
is_over v (Took o) = is_new_to v o

-- an operation of the heap h, of K, that a site of the vector v makes, or that is new to it
abbrev pub is_change_over : ℕ → ℕ → List ℕ → Change → Bool
is_change_over K h v c =
    is_wide v && (((operation_of c).heap == h) && (is_operation K (operation_of c) && is_over v c))

-- a step that can come over this image; what takes its place has all that it has seen
abbrev pub is_step_over : ℕ → ℕ → Image → Step → Bool
is_step_over K h a (Recorded r) = is_change_over K h a.vector r.change
is_step_over K h a (Merged stamp other) = is_wide a.vector
is_step_over K h a (HandedOn stamp handed) = true
is_step_over K h a (TookOver stamp other) = is_wide a.vector && covers other.vector a.vector

abbrev pub image_step : Step → Image → Image
image_step (Recorded r) a = image_after (operation_of r.change) a
image_step (Merged stamp other) a = join a other
image_step (HandedOn stamp handed) a = a
image_step (TookOver stamp other) a = other

-- the image after the steps, oldest first
abbrev pub steps_image : List Step → Image → Image
steps_image [] a = a
steps_image (s ∷ ss) a = steps_image ss (image_step s a)

-- each step can come where it stands
abbrev pub are_steps_over : ℕ → ℕ → Image → List Step → Bool
are_steps_over K h a [] = true
are_steps_over K h a (s ∷ ss) = is_step_over K h a s && are_steps_over K h (image_step s a) ss

-- the stamps never fall, and lie between low and high
abbrev pub are_rising : ℕ → ℕ → List Step → Bool
are_rising low high [] = true
are_rising low high (s ∷ ss) =
    nat_le low (stamp_of s) && (nat_le (stamp_of s) high && are_rising (stamp_of s) high ss)

-- the tail after the steps: all records that follow the last one that merged or took over another
-- image, and all where there is none
abbrev pub tail_after : List Record → List Step → List Record
tail_after tail [] = tail
tail_after tail (Recorded r ∷ ss) = tail_after (tail ++ r ∷ []) ss
tail_after tail (Merged stamp other ∷ ss) = tail_after [] ss
tail_after tail (HandedOn stamp handed ∷ ss) = tail_after tail ss
tail_after tail (TookOver stamp other ∷ ss) = tail_after [] ss

-- a tail's records, as steps
abbrev pub steps_of : List Record → List Step
steps_of tail = map (λ r. Recorded r) tail

-- what a book keeps: its tail replayed from the base gives the state; the stamps in the tail never
-- fall, and none is above the book's; the count is no less than the tail's length
pub record IsBook (b : Book) : Type 0 where
  pub steps : are_steps_over b.heaps b.heap b.base (steps_of b.tail) ≡ true
  pub replay : steps_image (steps_of b.tail) b.base ≡ b.state
  pub stamps : are_rising 0 b.stamp (steps_of b.tail) ≡ true
  pub count : length b.tail ≤ b.count

-- the book with one record more
abbrev pub recorded : Book → ℕ → Change → Book
recorded b stamp change = record {
  heap = b.heap;
  heaps = b.heaps;
  rule = b.rule;
  base = b.base;
  state = image_after (operation_of change) b.state;
  tail = b.tail ++ record { stamp = stamp; change = change } ∷ [];
  stamp = stamp;
  count = b.count + 1;
  limits = b.limits;
  handed = b.handed;
}

-- the book with another image merged in: nothing is left to replay
abbrev pub merged : Book → ℕ → Image → Book
merged b stamp other = record {
  heap = b.heap;
  heaps = b.heaps;
  rule = b.rule;
  base = join b.state other;
  state = join b.state other;
  tail = [];
  stamp = stamp;
  count = b.count + 1;
  limits = b.limits;
  handed = b.handed;
}

-- the book of whose steps so many were handed on, which counts as one step more
abbrev pub handed_on : Book → ℕ → ℕ → Book
handed_on b stamp handed = record b { stamp = stamp; count = b.count + 1; handed = Some handed }

-- the book with another image in place of its own: nothing is left to replay
abbrev pub taken_over : Book → ℕ → Image → Book
taken_over b stamp other = record {
  heap = b.heap;
  heaps = b.heaps;
  rule = b.rule;
  base = other;
  state = other;
  tail = [];
  stamp = stamp;
  count = b.count + 1;
  limits = b.limits;
  handed = b.handed;
}

abbrev pub touched : Book → ℕ → Book
touched b stamp = record b { stamp = stamp }

-- the image that a tail makes of its base
abbrev pub replayed : List Record → Image → Image
replayed tail base = steps_image (steps_of tail) base

-- the book whose base was moved over the n oldest records
abbrev pub advanced : ℕ → Book → Book
advanced n b = record b { base = replayed (take n b.tail) b.base; tail = drop n b.tail }

-- the operations of a tail, the oldest first
abbrev pub operations_of : List Record → List Operation
operations_of tail = map (λ r. operation_of r.change) tail
