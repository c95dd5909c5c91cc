-- What a join has at a place.

use Rattle.std.proofs.Common.{ℕ, ◌<◌, ◌≤◌, ◌≡◌, None, ap, ◌∙◌}
use Rattle.zq_model.specs.Entry.{join_site}
use Rattle.zq_model.specs.Image.{Image, Place, addition_at, entry_at, join, join_entry}
use Rattle.zq_model.specs.Sets.{SITES}
use Rattle.zq_model.proofs.Entries.{entry_at-get, get-join}
use Rattle.zq_model.proofs.Sites.{by_site-at, by_site-past, length-by_site}

-- the join's entry at a place is the join of the two entries there
pub entry_at-join : (a b : Image) (q : Place)
    → entry_at (join a b).members q ≡ join_entry a.vector b.vector (entry_at a.members q) (entry_at b.members q)
entry_at-join a b q = entry_at-get (join a b).members q _ (length-by_site _) (get-join a b q)

-- the join at a site
pub addition_at-join : (a b : Image) (q : Place) (s : ℕ) → s < SITES
    → addition_at (entry_at (join a b).members q) s ≡ join_site a.vector b.vector s (addition_at (entry_at a.members q) s) (addition_at (entry_at b.members q) s)
addition_at-join a b q s h = ap (λ e. addition_at e s) (entry_at-join a b q) ∙ by_site-at _ s None h

-- nothing stands at a site that there is not
pub addition_at-join-past : (a b : Image) (q : Place) (s : ℕ) → SITES ≤ s → addition_at (entry_at (join a b).members q) s ≡ None
addition_at-join-past a b q s h = ap (λ e. addition_at e s) (entry_at-join a b q) ∙ by_site-past _ s None h
