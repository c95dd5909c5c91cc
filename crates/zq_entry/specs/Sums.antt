-- Sums of increments by site: those that are not 0, and a place for each site.

use Rattle.std.specs.Ordering.{int_eq}
use Rattle.std.specs.List.{AllByRecursion}
use Rattle.std.specs.Prelude.{List, Option, [], if◌then◌else◌, nat_lt, pos, slice_index, slice_index_or, unwrap_or, ℕ, ℤ, ◌*◌, ◌+◌, ◌+ℤ◌, ◌==◌, ◌∷◌, ◌≢◌}
use Rattle.zq_model.specs.Operation.{IsWithin}
use Rattle.zq_model.specs.Sets.{SITES, by_site}
use Rattle.zq_model.specs.Sparse.{AreBySite, found}

-- the amount of a site's sum is at most this: the greatest increment times the last counter
abbrev pub MOST_SUM : ℕ
MOST_SUM = 9007199254740992 * 281474976710655

-- the sum of a site, and 0 where none is kept
abbrev pub sum_found : ℕ → List (ℕ × ℤ) → ℤ
sum_found s items = unwrap_or (found s items) (pos 0)

-- each site's sum
abbrev pub dense_sums : List (ℕ × ℤ) → List ℤ
dense_sums items = by_site (λ s. sum_found s items)

-- each site's sum, with the increment of a Bump of the site t
abbrev pub sums_bumped : ℕ → ℤ → List ℤ → List ℤ
sums_bumped t i sums =
    by_site (λ s. if s == t then slice_index_or sums s (pos 0) +ℤ i else slice_index_or sums s
    (pos 0))

-- a sum that is kept
abbrev pub IsSum : ℕ × ℤ → Type 0
IsSum p = (p.1 ≢ pos 0) × IsWithin MOST_SUM p.1

-- sums in range by rising site, and none of them 0
pub record AreSums (items : List (ℕ × ℤ)) : Type 0 where
  pub rising : AreBySite 0 SITES items
  pub each : AllByRecursion IsSum items

-- the sums that are not 0, each with its site, of sites from s on
abbrev pub nonzero_from : ℕ → List ℤ → List (ℕ × ℤ)
nonzero_from s [] = []
nonzero_from s (x ∷ sums) = if int_eq x (pos 0) then nonzero_from (s + 1) sums else (s, x)
    ∷ nonzero_from (s + 1) sums

-- the sums that are not 0, each with its site, by rising site
abbrev pub nonzero_sums : List ℤ → List (ℕ × ℤ)
nonzero_sums sums = nonzero_from 0 sums

-- a site's sum, which is not kept where it is 0
abbrev pub sum_kept : ℕ → ℤ → List (ℕ × ℤ)
sum_kept s x = if int_eq x (pos 0) then [] else (s, x) ∷ []

-- of two sums of a site, that of the side whose vector has more of the site, and the first where
-- they have the same
abbrev pub sum_joined : List ℕ → List ℕ → ℕ → Option ℤ → Option ℤ → Option ℤ
sum_joined u v s a b = if nat_lt (slice_index u s) (slice_index v s) then b else a
