-- What callers see of a heap: a finite map from members to scores and values.
use Rattle.std.specs.Prelude.{FitsSigned, List, Some, [], length, map, refl, slice_get, swap_remove, ℕ, ℤ, ◌<◌, ◌≡◌}
use Rattle.std.specs.Coded.{Coded, code_by, coded×, coded_list, coded_ℕ, coded_ℤ}
use Rattle.std.specs.Cmp.Lexicographic.{slice_cmp}
use Rattle.std.specs.FinMap.{FinMap, code, entries, from_entries, get}
use Rattle.std.specs.Int.{w128}
use Rattle.std.specs.Ordering.{nat_cmp}
use Rattle.zq_posheap.specs.declared.place.Place.{Place}

-- a score and a value for each of finitely many members, which are bytes
abbrev pub Entries : Type 0 → Type 0
Entries V = FinMap (slice_cmp nat_cmp) (ℤ × V)

-- a score for each of finitely many members
abbrev pub Scores : Type 0
Scores = FinMap (slice_cmp nat_cmp) ℤ

pub record Members (V : Type 0) : Type 0 where
  -- the score and the value of each member
  pub held : Entries V
  -- the members by their places
  pub places : List (List ℕ)
  -- how many members can be added with no memory
  pub room : ℕ

abbrev pub members_code : {V : Type 0} → Coded V → Coded (Members V)
members_code {V} v = code_by (Entries V × (List (List ℕ) × ℕ))
    (coded× (code (coded_list coded_ℕ) (coded× coded_ℤ v))
    (coded× (coded_list (coded_list coded_ℕ)) coded_ℕ))
    (λ m. (m.held, (m.places, m.room))) (λ p. record { held = p.0; places = p.1.0; room = p.1.1 })
    (λ _. refl)

-- the scores alone
abbrev pub scores_of : {V : Type 0} → Entries V → Scores
scores_of held = from_entries (map (λ e. (e.0, e.1.0)) (entries held))

-- each score is a number of 128 bits
abbrev pub AreInRange : {V : Type 0} → Entries V → Type 0
AreInRange {V} held = (member : List ℕ) (e : ℤ × V) → get held member ≡ Some e → FitsSigned w128 e.0

-- there is a member at the place
abbrev pub HasPlace : {V : Type 0} → Members V → Place → Type 0
HasPlace members place = place.index < length members.places

-- the place is the member's
abbrev pub IsPlaceOf : {V : Type 0} → Members V → List ℕ → Place → Type 0
IsPlaceOf members member place = slice_get members.places place.index ≡ Some member

-- each member has a place
abbrev pub AreListed : {V : Type 0} → Members V → Type 0
AreListed {V} members = (member : List ℕ) (e : ℤ × V) → get members.held member ≡ Some e →
    (i : ℕ) × (slice_get members.places i ≡ Some member)

-- the member was taken from its place, to which the last one came
pub record IsTakenFrom (old : List (List ℕ)) (member : List ℕ) (new : List (List ℕ)) : Type 0 where
  pub at : ℕ
  pub there : slice_get old at ≡ Some member
  pub rest : new ≡ swap_remove old at []
