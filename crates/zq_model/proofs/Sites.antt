-- A value for each site, read at a site.

use Rattle.std.proofs.Common.{List, arith, get_or, length, subst, sym, ℕ, ◌<◌, ◌∙◌, ◌≡◌, ◌≤◌}
use Rattle.std.proofs.lemmas.List.{get_or_past}
use Rattle.std.proofs.lemmas.List.FromFn.{fill_by_all, get_or-map-range_with_len, length-map-range_with_len}
use Rattle.zq_model.specs.Sets.{SITES, by_site}

pub by_site-at : {X : Type 0} (f : ℕ → X) (s : ℕ) (d : X) → s < SITES → get_or (by_site f) s d ≡ f s
by_site-at f s d h = get_or-map-range_with_len f 0 SITES s s d h (omega arith)

pub length-by_site : {X : Type 0} (f : ℕ → X) → length (by_site f) ≡ SITES
length-by_site f = length-map-range_with_len f 0 SITES

pub by_site-past : {X : Type 0} (f : ℕ → X) (s : ℕ) (d : X) → SITES ≤ s → get_or (by_site f) s d ≡ d
by_site-past f s d h = get_or_past (by_site f) s d (subst (λ n. n ≤ s) (sym (length-by_site f)) h)

-- a list with a value for each site is told by these values
pub by_site_from : {X : Type 0} (f : ℕ → X) (xs : List X) (d : X) → length xs ≡ SITES → ((s : ℕ) → s < SITES → get_or xs s d ≡ f s) → xs ≡ by_site f
by_site_from f xs d wide each = fill_by_all f xs SITES d wide each

pub by_site-same : {X : Type 0} (f g : ℕ → X) → ((s : ℕ) → s < SITES → f s ≡ g s) → by_site f ≡ by_site g
by_site-same f g each = by_site_from g (by_site f) (f 0) (length-by_site f) (λ s h. by_site-at f s (f 0) h ∙ each s h)
