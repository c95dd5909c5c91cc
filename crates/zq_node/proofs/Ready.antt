-- Which of the operations that are parked are ready.

use Rattle.std.proofs.Common.{Bool, arith, false, get_or, inl, inr, refl, subst, sym, true, List, None, Option, Some, ℕ, ◌+◌, ◌<◌, ◌≡◌, ◌≤◌, ◌≢◌, ◌∙◌, ◌∷◌, ap}
use Rattle.std.proofs.lemmas.Bool.{cases_Bool, cases_lt, cond-false}
use Rattle.std.proofs.lemmas.Bool.Decides.{nat_tests}
use Rattle.std.specs.BTreeMap.Range.{IsInRange, IsLeBy}
use Rattle.std.specs.List.{slice_get}
use Rattle.std.specs.Option.{IfSome, IsSome}
use Rattle.std.specs.Prelude.{is_some, ◌↔◌}
use Rattle.std.specs.declared.ops.Bound.TheVariants.{Excluded, Included}
use Rattle.zq_dots.specs.Placed.{Placed}
use Rattle.zq_model.proofs.Dots.{has_not, has_not_from}
use Rattle.zq_model.proofs.Taken.{covers_at, taken_early}
use Rattle.zq_model.specs.Operation.{has}
use Rattle.zq_model.specs.Sets.{Early, covers, taken_of}
use Rattle.zq_node.specs.Parked.{ArePlaced, Entries, HasPlaceOf, IsNext, IsReadyAt, IsSiteEarly, Place, parked_at, place_cmp, place_of}

-- between these bounds lie a site's places up to the counter after the known ones
abbrev pub IsNear : ℕ → ℕ → ℕ → Place → Type 0
IsNear heap site known q = IsInRange place_cmp (Included (heap, site, 0)) (Excluded (heap, site, known + 2)) q

near_is : (heap site known : ℕ) (q : Place) → IsNear heap site known q → (q.0 ≡ heap) × (q.1 ≡ site) × (q.2 < known + 2)
near_is heap site known q within = grind (arith, nat_tests)

near_has : (heap site known n : ℕ) → n < known + 2 → IsNear heap site known (heap, site, n)
near_has heap site known n below = grind (arith, nat_tests)

-- of two places of a site the first has the less counter
least_is : (heap site : ℕ) (p : Place) (n : ℕ) → p.0 ≡ heap → p.1 ≡ site → IsLeBy place_cmp p (heap, site, n) → p.2 ≤ n
least_is heap site p n h s least = grind (arith, nat_tests)

some_is : (x : Option Placed) (o : Placed) → x ≡ Some o → IsSome x
some_is x o is = subst IsSome (sym is) refl

-- ---- what a counter says

-- an operation whose counter is neither known nor the next is Early
later_early : (v : List ℕ) (known : ℕ) (o : Placed) → IsNext o → known ≡ get_or v o.operation.site 0 → known + 2 ≤ o.operation.n → taken_of v o.operation ≡ Early
later_early v known o its is late =
    let op = o.operation in
    let next = its.next in
    let fresh : has v op.site op.n ≡ false = has_not_from v op.site op.n (omega arith) in
    let apart : covers v op.seen ≡ false = elim (cases_Bool (covers v op.seen)) [
      | inl all ↦ absurd (let below : get_or op.seen op.site 0 ≤ get_or v op.site 0 = covers_at v op.seen op.site all its.site in omega arith)
      | inr not ↦ not
    ] in
    cond-false _ _ _ fresh ∙ cond-false _ _ _ apart

-- ---- what is parked

abbrev pub IsPlacedAt : Place → Placed → Type 0
IsPlacedAt q o = (place_of o ≡ q) × IsNext o

pub placed_at : (parked : Entries) (q : Place) (o : Placed) → ArePlaced parked → parked_at parked q ≡ Some o → IsPlacedAt q o
placed_at parked q o are is = subst (λ x. IfSome x (IsPlacedAt q)) is (are q)

-- a place that is taken has one of its heap and dot
pub some_place : (parked : Entries) (o : Placed) (q : Place) (x : Option Placed) → ArePlaced parked → q ≡ place_of o → parked_at parked q ≡ x → is_some x ≡ true → HasPlaceOf parked o
some_place parked o q (Some p) are at is some = let placed = placed_at parked q p are is in (p, ap (parked_at parked) placed.0 ∙ is, placed.0 ∙ at)
some_place parked o q None are at is some = absurd (cc)

pub place_taken : (parked : Entries) (o : Placed) (q : Place) (b : Bool) → ArePlaced parked → q ≡ place_of o → b ≡ is_some (parked_at parked q) → (b ≡ true) ↔ HasPlaceOf parked o
place_taken parked o q b are at is = (
  λ some. some_place parked o q (parked_at parked q) are at refl (sym is ∙ some),
  λ taken. is ∙ ap is_some (ap (parked_at parked) (at ∙ sym taken.2) ∙ taken.1),
)

-- one that is Early has a counter past the known ones
early_past : (parked : Entries) (v : List ℕ) (known : ℕ) (p : Place) (first : Placed) → ArePlaced parked → known ≡ get_or v p.1 0 → parked_at parked p ≡ Some first → taken_of v first.operation ≡ Early → known < p.2
early_past parked v known p first are is here early =
    let placed = placed_at parked p first are here in
    let op = first.operation in
    let next = placed.1.next in
    let site : op.site ≡ p.1 = λ i. (placed.0 i).1 in
    let n : op.n ≡ p.2 = λ i. (placed.0 i).2 in
    let past : get_or v op.site 0 < op.n = has_not v op.site op.n (taken_early v op early).0 (omega arith) in
    let counter : known ≡ get_or v op.site 0 = is ∙ ap (λ t. get_or v t 0) (sym site) in
    omega arith

-- where none is near, each of the site is Early
pub none_near : (parked : Entries) (v : List ℕ) (heap site known : ℕ) → ArePlaced parked → known ≡ get_or v site 0 → ((q : Place) → IsNear heap site known q → parked_at parked q ≡ None) → IsSiteEarly parked heap v site
none_near parked v heap site known are is none o here h s =
    let its = (placed_at parked (place_of o) o are here).1 in
    let counter : known ≡ get_or v o.operation.site 0 = is ∙ ap (λ t. get_or v t 0) (sym s) in
    elim (cases_lt o.operation.n (known + 2)) [
      | inl below ↦
          let near : IsNear heap site known (heap, site, o.operation.n) = near_has heap site known o.operation.n below in
          let same : (heap, site, o.operation.n) ≡ place_of o = λ i. (sym h i, sym s i, o.operation.n) in
          let gone : parked_at parked (place_of o) ≡ None = ap (parked_at parked) (sym same) ∙ none (heap, site, o.operation.n) near in
          absurd (let both : Some o ≡ None = sym here ∙ gone in cc)
      | inr past ↦ later_early v known o its counter past
    ]

-- where the first that is near is Early, each of the site is
pub first_near : (parked : Entries) (v : List ℕ) (heap site known : ℕ) (p : Place) (first : Placed) → ArePlaced parked → known ≡ get_or v site 0 → IsNear heap site known p → parked_at parked p ≡ Some first → ((q : Place) → IsNear heap site known q → IsSome (parked_at parked q) → IsLeBy place_cmp p q) → taken_of v first.operation ≡ Early → IsSiteEarly parked heap v site
first_near parked v heap site known p first are is near here least early o there h s =
    let its = (placed_at parked (place_of o) o are there).1 in
    let counter : known ≡ get_or v o.operation.site 0 = is ∙ ap (λ t. get_or v t 0) (sym s) in
    elim (cases_lt o.operation.n (known + 2)) [
      | inl below ↦
          let at = near_is heap site known p near in
          let place : Place = (heap, site, o.operation.n) in
          let same : place ≡ place_of o = λ i. (sym h i, sym s i, o.operation.n) in
          let found : parked_at parked place ≡ Some o = ap (parked_at parked) same ∙ there in
          let low : p.2 ≤ o.operation.n = least_is heap site p o.operation.n at.0 at.1 (least place (near_has heap site known o.operation.n below) (some_is _ o found)) in
          let past : known < p.2 = early_past parked v known p first are (is ∙ ap (λ t. get_or v t 0) (sym at.1)) here early in
          let counts : p.2 ≡ o.operation.n = omega arith in
          let places : p ≡ place = λ i. (at.0 i, at.1 i, counts i) in
          let both : Some first ≡ Some o = sym here ∙ (ap (parked_at parked) places ∙ found) in
          let one : first ≡ o = cc in
          ap (λ x. taken_of v x.operation) (sym one) ∙ early
      | inr past ↦ later_early v known o its counter past
    ]

-- the first that is near is ready where it is not Early
pub ready_near : (parked : Entries) (v : List ℕ) (heap site known : ℕ) (p : Place) (first : Placed) → ArePlaced parked → IsNear heap site known p → parked_at parked p ≡ Some first → taken_of v first.operation ≢ Early → IsReadyAt parked heap v p
ready_near parked v heap site known p first are near here ready =
    let at = near_is heap site known p near in
    let placed = placed_at parked p first are here in
    (first, here, (λ i. (placed.0 i).0) ∙ at.0, ready)

-- what holds of the first of a list
pub of_first : {A : Type 0} (P : A → Type 0) (xs rest : List A) (x : A) → xs ≡ x ∷ rest → IfSome (slice_get xs 0) P → P x
of_first P xs rest x is holds = subst (λ ys. IfSome (slice_get ys 0) P) is holds
