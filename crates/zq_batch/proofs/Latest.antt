-- The last operation that passes a test.

use Rattle.std.proofs.Common.{ap, arith, false, get_or, inl, inr, if◌then◌else◌, take, length, List, None, Option, refl, Some, sym, true, Bool, [], ℕ, ◌+◌, ◌++◌, ◌<◌, ◌∙◌, ◌∷◌, ◌≡◌}
use Rattle.std.proofs.lemmas.Bool.{cases_lt}
use Rattle.std.proofs.lemmas.List.{get_or_past, take_more}
use Rattle.zq_model.proofs.Sites.{by_site-at, length-by_site}
use Rattle.zq_model.specs.Sets.{SITES}
use Rattle.zq_fields.specs.Vectors.{no_counters}
use Rattle.zq_batch.specs.Before.{last_op, latest, later}
use Rattle.zq_dots.specs.Placed.{Placed}

later_if : (b : Bool) (first r : Option Placed) (x : Placed) → later first (if b then Some x else r) ≡ (if b then Some x else later first r)
later_if true first r x = refl
later_if false first r x = refl

later_none : (b : Bool) (x : Placed) → later (if b then Some x else None) None ≡ (if b then Some x else None)
later_none b x = refl

pub latest_push : (p : Placed → Bool) (ops : List Placed) (x : Placed) → latest p (ops ++ x ∷ []) ≡ (if p x then Some x else latest p ops)
latest_push p [] x = later_none (p x) x
latest_push p (o ∷ ops) x = ap (later (if p o then Some o else None)) (latest_push p ops x) ∙ later_if (p x) (if p o then Some o else None) (latest p ops) x

pub latest_yes : (p : Placed → Bool) (ops all : List Placed) (x : Placed) → all ≡ ops ++ x ∷ [] → p x ≡ true → latest p all ≡ Some x
latest_yes p ops all x is passes = ap (latest p) is ∙ (latest_push p ops x ∙ ap (λ b. if b then Some x else latest p ops) passes)

pub latest_no : (p : Placed → Bool) (ops all : List Placed) (x : Placed) → all ≡ ops ++ x ∷ [] → p x ≡ false → latest p all ≡ latest p ops
latest_no p ops all x is fails = ap (latest p) is ∙ (latest_push p ops x ∙ ap (λ b. if b then Some x else latest p ops) fails)

pub latest_none : (p : Placed → Bool) (ops : List Placed) → length ops ≡ 0 → latest p ops ≡ None
latest_none p [] none = refl
latest_none p (o ∷ ops) none = absurd (omega arith)

pub last_found : (ops all : List Placed) (x : Placed) → all ≡ ops ++ x ∷ [] → last_op all ≡ Some x
last_found ops all x is = latest_yes (λ _. true) ops all x is refl

same_end : (ops : List Placed) (i n : ℕ) (x : Placed) → n ≡ i + 1 → i < length ops → x ≡ get_or ops i x → take n ops ≡ take i ops ++ x ∷ []
same_end ops i n x next here is = ap (λ m. take m ops) next ∙ (take_more ops i x here ∙ ap (λ y. take i ops ++ y ∷ []) (sym is))

-- the last of those that are left passes
pub found_back : (p : Placed → Bool) (ops : List Placed) (i n : ℕ) (x : Placed) → n ≡ i + 1 → i < length ops → x ≡ get_or ops i x → latest p ops ≡ latest p (take n ops) → p x ≡ true → latest p ops ≡ Some x
found_back p ops i n x next here is all passes = all ∙ latest_yes p (take i ops) (take n ops) x (same_end ops i n x next here is) passes

-- it does not
pub passed_back : (p : Placed → Bool) (ops : List Placed) (i n : ℕ) (x : Placed) → n ≡ i + 1 → i < length ops → x ≡ get_or ops i x → latest p ops ≡ latest p (take n ops) → p x ≡ false → latest p ops ≡ latest p (take i ops)
passed_back p ops i n x next here is all fails = all ∙ latest_no p (take i ops) (take n ops) x (same_end ops i n x next here is) fails

-- nothing is known of a site
pub no_counter : (t : ℕ) → get_or no_counters t 0 ≡ 0
no_counter t = elim (cases_lt t SITES) [
  | inl below ↦ by_site-at (λ _. 0) t 0 below
  | inr past ↦ get_or_past no_counters t 0 (let wide : length no_counters ≡ SITES = length-by_site (λ _. 0) in omega arith)
]
