-- What the operations before one say of it.

use Rattle.std.specs.Cmp.Lexicographic.{pointwise}
use Rattle.std.specs.Prelude.{Bool, List, None, Option, Some, [], false, if◌then◌else◌, length, nat_eq, nat_le, slice_index, slice_set, true, ℕ, ◌&&◌, ◌++◌, ◌-◌, ◌==◌, ◌∷◌, ◌≤◌}
use Rattle.zq_dots.specs.Placed.{Placed}
use Rattle.zq_fields.specs.Vectors.{no_counters}
use Rattle.zq_model.specs.Sets.{LAST}

-- the last of these that passes
abbrev pub later : Option Placed → Option Placed → Option Placed
later first None = first
later first (Some o) = Some o

abbrev pub latest : (Placed → Bool) → List Placed → Option Placed
latest p [] = None
latest p (o ∷ ops) = later (if p o then Some o else None) (latest p ops)

-- the operation before
abbrev pub last_op : List Placed → Option Placed
last_op before = latest (λ _. true) before

abbrev pub is_of : ℕ → Placed → Bool
is_of site o = o.operation.site == site

-- the operation of the site before
abbrev pub last_of : ℕ → List Placed → Option Placed
last_of site before = latest (is_of site) before

-- ---- what is not written again

-- the most bytes of a key that is not written again
abbrev pub MOST_REPEATED : ℕ
MOST_REPEATED = 127

abbrev pub has_short_key : Placed → Bool
has_short_key o = nat_le (length o.operation.key) MOST_REPEATED

abbrev pub has_key : List ℕ → Placed → Bool
has_key key o = has_short_key o && pointwise nat_eq o.operation.key key

abbrev pub holds : (Placed → Bool) → Option Placed → Bool
holds p None = false
holds p (Some o) = p o

-- whether the key is that of the operation before, and short
abbrev pub repeats_key : List Placed → List ℕ → Bool
repeats_key before key = holds (has_key key) (last_op before)

-- whether the site is that of the operation before
abbrev pub repeats_site : List Placed → ℕ → Bool
repeats_site before site = holds (is_of site) (last_op before)

-- ---- what the counters are counted from

-- what is known without the operation: what the one before of its site had seen, and that one
abbrev pub base_from : ℕ → Option Placed → List ℕ
base_from site None = no_counters
base_from site (Some o) = slice_set o.operation.seen site o.operation.n

abbrev pub base_of : ℕ → List Placed → List ℕ
base_of site before = base_from site (last_of site before)

-- The most that it has seen of its own site: no more than the one before, or where there is none
-- anything that leaves it a counter.
abbrev pub top_from : Option Placed → ℕ
top_from None = LAST - 1
top_from (Some o) = o.operation.n

abbrev pub top_of : ℕ → List Placed → ℕ
top_of site before = top_from (last_of site before)

-- the most that an operation of this site has seen of the site t
abbrev pub most_of : ℕ → ℕ → ℕ → ℕ
most_of own top t = if t == own then top else LAST

-- what is seen has not fallen below what is known, nor risen above the top of the site
pub record IsRisen (site : ℕ) (known : List ℕ) (top : ℕ) (seen : List ℕ) : Type 0 where
  pub rises : (t : ℕ) → slice_index known t ≤ slice_index seen t
  pub own : slice_index seen site ≤ top

-- It has seen no less than the one before of its site, and is the next of its site after that.
abbrev pub IsNext : List Placed → Placed → Type 0
IsNext before o =
    IsRisen o.operation.site (base_of o.operation.site before) (top_of o.operation.site before)
    o.operation.seen

-- each is the next, behind these
abbrev pub AreNext : List Placed → List Placed → Type 0
AreNext before [] = Unit {0}
AreNext before (o ∷ ops) = IsNext before o × AreNext (before ++ o ∷ []) ops
