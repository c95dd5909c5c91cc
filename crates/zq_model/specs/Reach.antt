-- One book is reached from another by steps.

use Rattle.std.specs.List.{list_all}
use Rattle.std.specs.Prelude.{List, None, Option, Some, [], if◌then◌else◌, length, max, min, nat_le, suc, sum_by, true, ℕ, ◌++◌, ◌+◌, ◌-◌, ◌<◌, ◌==◌, ◌∷◌, ◌≡◌, ◌≤◌, ◌⊎◌}
use Rattle.zq_model.specs.Books.{Book, HandedOn, Merged, Record, Recorded, Step, TookOver, advanced, are_rising, are_steps_over, handed_on, merged, operation_of, recorded, stamp_of, steps_image, tail_after, taken_over, touched}
use Rattle.zq_model.specs.Limits.{TailLimits}

-- the bytes of a record's key and member
abbrev pub bytes_of : Record → ℕ
bytes_of r = length (operation_of r.change).key + length (operation_of r.change).member

-- and of all records
abbrev pub bytes_in : List Record → ℕ
bytes_in tail = sum_by bytes_of tail

-- the records have more of them than a tail keeps
abbrev pub IsHeavy : Option ℕ → List Record → Type 0
IsHeavy None tail = ⊥
IsHeavy (Some most) tail = most < bytes_in tail

-- records may have been cut off before this tail: none were, or as many as a cut leaves are left,
-- or all together had more bytes than a tail keeps
abbrev pub IsCutOff : TailLimits → List Record → List Record → Type 0
IsCutOff limits cut tail = (cut ≡ [])
    ⊎ ((limits.kept ≤ length tail) ⊎ IsHeavy limits.bytes (cut ++ tail))

-- these steps lead from a to b: their stamps are above a's and none is above b's, each counts one,
-- and b's tail is a's with their records, or what follows the last image that was merged or taken
-- over, of which the oldest may have been cut off
pub record IsReachedBy (b a : Book) (steps : List Step) : Type 0 where
  pub heap : b.heap ≡ a.heap
  pub heaps : b.heaps ≡ a.heaps
  pub rule : b.rule ≡ a.rule
  pub limits : b.limits ≡ a.limits
  pub legal : are_steps_over a.heaps a.heap a.state steps ≡ true
  pub state : b.state ≡ steps_image steps a.state
  pub rising : are_rising (a.stamp + 1) b.stamp steps ≡ true
  pub stamp : a.stamp ≤ b.stamp
  pub count : b.count ≡ a.count + length steps
  pub cut : List Record
  pub tail : cut ++ b.tail ≡ tail_after a.tail steps
  pub long : IsCutOff a.limits cut b.tail

-- some steps lead from a to b
abbrev pub Reached : Book → Book → Type 0
Reached b a = (steps : List Step) × IsReachedBy b a steps

-- how many records go where a tail of this length is too long
abbrev pub cut_by_length : TailLimits → ℕ → ℕ
cut_by_length limits n = if nat_le limits.long n then n - limits.kept else 0

-- how many of the oldest go, so that the rest has at most so many bytes
abbrev pub cut_to_bytes : ℕ → List Record → ℕ
cut_to_bytes most [] = 0
cut_to_bytes most (r ∷ tail) =
    if nat_le (bytes_in (r ∷ tail)) most then 0 else suc (cut_to_bytes most tail)

abbrev pub cut_by_bytes : Option ℕ → List Record → ℕ
cut_by_bytes None tail = 0
cut_by_bytes (Some most) tail = cut_to_bytes most tail

-- how many of the oldest may go: of a tail's n, before which the book counts other steps, those that
-- were handed on. A step that left no record counts as one before the tail, so that none goes which
-- was not handed on
abbrev pub cut_at_most : Option ℕ → ℕ → ℕ → ℕ
cut_at_most None count n = n
cut_at_most (Some handed) count n = handed - (count - n)

-- how many of the oldest records are cut off a book's tail
abbrev pub cut_of : Book → ℕ
cut_of b = min (cut_at_most b.handed b.count (length b.tail))
    (max (cut_by_length b.limits (length b.tail)) (cut_by_bytes b.limits.bytes b.tail))

-- the book as a call of this stamp begins with it: the oldest records are cut off the tail where it
-- is too long, and the stamp is the call's
abbrev pub begun : ℕ → Book → Book
begun stamp a = touched (advanced (cut_of a) a) stamp

-- the book after one step more
abbrev pub after_step : Step → Book → Book
after_step (Recorded r) b = recorded b r.stamp r.change
after_step (Merged stamp other) b = merged b stamp other
after_step (HandedOn stamp handed) b = handed_on b stamp handed
after_step (TookOver stamp other) b = taken_over b stamp other

-- the book after the steps, oldest first
abbrev pub after_steps : List Step → Book → Book
after_steps [] b = b
after_steps (s ∷ ss) b = after_steps ss (after_step s b)

-- the book after a call of this stamp with these steps of its own
abbrev pub worked : ℕ → List Step → Book → Book
worked stamp steps a = after_steps steps (begun stamp a)

-- how many steps were handed on after these
abbrev pub handed_after : Option ℕ → List Step → Option ℕ
handed_after before [] = before
handed_after before (Recorded r ∷ ss) = handed_after before ss
handed_after before (Merged stamp other ∷ ss) = handed_after before ss
handed_after before (HandedOn stamp handed ∷ ss) = handed_after (Some handed) ss
handed_after before (TookOver stamp other ∷ ss) = handed_after before ss

-- b is a after the own steps of one call of this stamp
pub record IsWorked (b a : Book) (stamp : ℕ) (steps : List Step) : Type 0 where
  pub heap : b.heap ≡ a.heap
  pub heaps : b.heaps ≡ a.heaps
  pub rule : b.rule ≡ a.rule
  pub limits : b.limits ≡ a.limits
  pub handed : b.handed ≡ handed_after a.handed steps
  pub legal : are_steps_over a.heaps a.heap a.state steps ≡ true
  pub state : b.state ≡ steps_image steps a.state
  pub own : list_all (λ s. stamp_of s == stamp) steps ≡ true
  pub stamp_is : b.stamp ≡ stamp
  pub count : b.count ≡ a.count + length steps
  pub is : b ≡ worked stamp steps a
