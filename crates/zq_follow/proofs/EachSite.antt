-- A test at each site.

use Rattle.std.proofs.Common.{Bool, List, arith, false, get_or, length, not, refl, subst, suc, sym, true, zero, ℕ, ⊎_elim, ◌&&◌, ◌+◌, ◌<◌, ◌↔◌, ◌≡◌, ◌≤◌}
use Rattle.std.proofs.lemmas.Bool.{and_from, and_parts, cases_eq, cases_lt, false≢true, not-true, not_from_false, or_cases, or_from, or_left, or_right}
use Rattle.std.proofs.lemmas.List.{get_or_past}
use Rattle.std.specs.List.{list_any, range_with_len}
use Rattle.zq_model.specs.Sets.{SITES}
use Rattle.zq_follow.specs.SiteSet.{any_site, has_site, lacks}

any_range_at : (p : ℕ → Bool) (a n t : ℕ) → a ≤ t → t < a + n → p t ≡ true →
    list_any p (range_with_len a n) ≡ true
any_range_at p a zero t low high passes = absurd (omega arith)
any_range_at p a (suc n) t low high passes =
    ⊎_elim (λ same. or_left _ _ (subst (λ x. p x ≡ true) (sym same) passes)) (λ apart. or_right _ _ (any_range_at p (a + 1) n t (omega arith) (omega arith) passes)) (cases_eq a t)

any_range_none : (p : ℕ → Bool) (a n : ℕ) → ((t : ℕ) → a ≤ t → t < a + n → p t ≡ false) →
    list_any p (range_with_len a n) ≡ false
any_range_none p a zero each = refl
any_range_none p a (suc n) each = or_from _ _ (each a (omega arith) (omega arith)) (any_range_none p (a + 1) n (λ t low high. each t (omega arith) (omega arith)))

any_range_some : (p : ℕ → Bool) (a n : ℕ) → list_any p (range_with_len a n) ≡ true →
    (t : ℕ) × (t < a + n) × (p t ≡ true)
any_range_some p a zero some = absurd (false≢true some)
any_range_some p a (suc n) some =
    ⊎_elim (λ here. (a, omega arith, here)) (λ later. let w = any_range_some p (a + 1) n later in (w.0, omega arith, w.2)) (or_cases _ _ some)

-- one site that passes is enough
pub any_site_at : (p : ℕ → Bool) (t : ℕ) → t < SITES → p t ≡ true → any_site p ≡ true
any_site_at p t below passes = any_range_at p 0 SITES t (omega arith) (omega arith) passes

pub any_site_none : (p : ℕ → Bool) → ((t : ℕ) → t < SITES → p t ≡ false) → any_site p ≡ false
any_site_none p each = any_range_none p 0 SITES (λ t low high. each t (omega arith))

pub any_site_some : (p : ℕ → Bool) → any_site p ≡ true → (t : ℕ) × (t < SITES) × (p t ≡ true)
any_site_some p some = let w = any_range_some p 0 SITES some in (w.0, omega arith, w.2)

-- no site is past the last
pub site_below : (sites : List Bool) (o : ℕ) → length sites ≡ SITES → has_site sites o ≡ true →
    o < SITES
site_below sites o wide there =
    ⊎_elim (λ below. below) (λ past. let none : get_or sites o false ≡ false = get_or_past sites o false (omega arith) in absurd (cc)) (cases_lt o SITES)

-- a set lacks another where that has a site that it has not
pub lacks_each : (sites others : List Bool) → length others ≡ SITES →
    (lacks sites others ≡ true) ↔ ((o : ℕ) × (has_site others o ≡ true) × (has_site sites o ≡ false))
lacks_each sites others wide = (
  λ some.
      let w = any_site_some (λ o. has_site others o && not (has_site sites o)) some in
      let parts = and_parts _ _ w.2 in
      (w.0, parts.0, not-true _ parts.1),
  λ w. any_site_at (λ o. has_site others o && not (has_site sites o)) w.0 (site_below others w.0 wide w.1) (and_from _ _ w.1 (not_from_false _ w.2)),
)
