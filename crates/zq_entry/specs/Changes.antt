-- What acts and joins make of additions with their sites.

use Rattle.std.specs.Prelude.{Bool, List, not, ℕ, ℤ, ◌==◌, ◌||◌}
use Rattle.zq_model.specs.Entry.{bumped, join_site}
use Rattle.zq_model.specs.Operation.{has}
use Rattle.zq_model.specs.Sets.{by_site}
use Rattle.zq_entry.specs.Placed.{placed_of}
use Rattle.zq_model.specs.Rows.{OfSite}
use Rattle.zq_model.specs.Sparse.{found}

-- what a vector has not seen
abbrev pub is_unseen : List ℕ → OfSite → Bool
is_unseen seen p = not (has seen p.0 p.1.n)

-- whether a Put of this site that has seen this vector takes the addition away
abbrev pub goes : ℕ → List ℕ → OfSite → Bool
goes site seen p = (p.0 == site) || has seen p.0 p.1.n

-- what stays, in a list that has the new addition of this site, after a Put that has seen this
-- vector
abbrev pub stays : ℕ → List ℕ → OfSite → Bool
stays site seen p = (p.0 == site) || is_unseen seen p

-- the addition after the site t's Bump by i that has seen this vector
abbrev pub bumped_placed : List ℕ → ℕ → ℤ → OfSite → OfSite
bumped_placed seen t i p = (p.0, bumped seen p.0 t i p.1)

-- the join of what two sides have, by rising site
abbrev pub joined_additions : List ℕ → List ℕ → List OfSite → List OfSite → List OfSite
joined_additions u v a b = placed_of (by_site (λ s. join_site u v s (found s a) (found s b)))
