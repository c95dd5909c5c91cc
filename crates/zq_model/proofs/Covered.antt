-- Steps lose nothing: the vector after them covers the one before.

use Rattle.std.proofs.Common.{arith, get_or, get_or-set_other, get_or-set_same, inl, inr, subst, sym}
use Rattle.std.proofs.lemmas.Bool.{and_parts, cases_eq, cases_lt, eqb-true}
use Rattle.std.proofs.lemmas.List.{get_or_past, set_past}
use Rattle.std.specs.Prelude.{List, [], length, max, slice_index, slice_set, true, ℕ, ◌<◌, ◌∷◌, ◌≡◌, ◌≤◌}
use Rattle.zq_model.proofs.NewRecords.{change_is, change_is_new}
use Rattle.zq_model.specs.Books.{Book, Change, HandedOn, Merged, Recorded, Step, TookOver, are_steps_over, image_step, is_change_over, is_step_over, is_wide, operation_of, steps_image}
use Rattle.zq_model.specs.Reach.{Reached}
use Rattle.zq_model.proofs.Dots.{has_from, has_not, has_parts}
use Rattle.zq_model.proofs.Sites.{by_site-at}
use Rattle.zq_model.proofs.Taken.{covers_at, covers_from, taken_new}
use Rattle.zq_model.specs.Image.{Image, image_after}
use Rattle.zq_model.specs.Operation.{Operation, has}
use Rattle.zq_model.specs.Sets.{SITES, covers}

-- a counter that is raised
raised : (v : List ℕ) (s n t : ℕ) → get_or v s 0 < n → get_or v t 0 ≤ get_or (slice_set v s n) t 0
raised v s n t above =
    elim (cases_eq t s) [
      | inl same ↦ subst (λ r. get_or v r 0 ≤ get_or (slice_set v s n) r 0) (sym same)
          (elim (cases_lt s (length v)) [
            | inl within ↦ (let own : get_or (slice_set v s n) s 0 ≡ n = get_or-set_same v s n 0 within in omega arith)
            | inr past ↦ (let stays : slice_set v s n ≡ v = set_past v s n past in subst (λ w. get_or v s 0 ≤ get_or w s 0) (sym stays) (omega arith))
          ])
      | inr apart ↦ (let other : get_or (slice_set v s n) t 0 ≡ get_or v t 0 = get_or-set_other v s t n 0 apart in omega arith)
    ]

-- no counter is lost
abbrev pub HasNoLess : List ℕ → List ℕ → Type 0
HasNoLess v u = (t : ℕ) → get_or u t 0 ≤ get_or v t 0

change_grows : (K h : ℕ) (a : Image) (c : Change) → is_change_over K h a.vector c ≡ true → HasNoLess (image_after (operation_of c) a).vector a.vector
change_grows K h a c over =
    let o : Operation = operation_of c in
    let new = taken_new a.vector o (change_is_new K h a.vector c over).1 in
    let next = (change_is K h a.vector c over).operation.next in
    let above : get_or a.vector o.site 0 < o.n = has_not a.vector o.site o.n new.0 (omega (arith, next)) in
    λ t. raised a.vector o.site o.n t above

step_grows : (K h : ℕ) (a : Image) (s : Step) → is_step_over K h a s ≡ true → HasNoLess (image_step s a).vector a.vector
step_grows K h a (Recorded r) over = change_grows K h a r.change over
step_grows K h a (Merged stamp other) over = λ t.
    elim (cases_lt t SITES) [
      | inl below ↦ (
          let both = by_site-at (λ s. max (slice_index a.vector s) (slice_index other.vector s)) t 0 below in
          omega (arith, both))
      | inr past ↦ (
          let wide : length a.vector ≡ SITES = eqb-true (length a.vector) SITES over in
          let none : get_or a.vector t 0 ≡ 0 = get_or_past a.vector t 0 (omega arith) in
          omega (arith, none))
    ]
step_grows K h a (HandedOn stamp handed) over = λ t. omega arith
step_grows K h a (TookOver stamp other) over =
    let both : (is_wide a.vector ≡ true) × (covers other.vector a.vector ≡ true) = and_parts _ _ over in
    λ t.
    elim (cases_lt t SITES) [
      | inl below ↦ covers_at other.vector a.vector t both.1 below
      | inr past ↦ (
          let wide : length a.vector ≡ SITES = eqb-true (length a.vector) SITES both.0 in
          let none : get_or a.vector t 0 ≡ 0 = get_or_past a.vector t 0 (omega arith) in
          omega (arith, none))
    ]

steps_grow : (K h : ℕ) (steps : List Step) (a : Image) → are_steps_over K h a steps ≡ true → HasNoLess (steps_image steps a).vector a.vector
steps_grow K h [] a over = λ t. omega arith
steps_grow K h (s ∷ steps) a over =
    let both : (is_step_over K h a s ≡ true) × (are_steps_over K h (image_step s a) steps ≡ true) = and_parts _ _ over in
    let first = step_grows K h a s both.0 in
    let rest = steps_grow K h steps (image_step s a) both.1 in
    λ t. let x = first t in let y = rest t in omega (arith, x, y)

pub reached_more : (b a : Book) → Reached b a → HasNoLess b.state.vector a.state.vector
reached_more b a is =
    subst (λ (s : Image). HasNoLess s.vector a.state.vector) (sym is.1.state) (steps_grow a.heaps a.heap is.0 a.state is.1.legal)

pub reached_covers : (b a : Book) → Reached b a → covers b.state.vector a.state.vector ≡ true
reached_covers b a is = covers_from b.state.vector a.state.vector (λ t below. reached_more b a is t)

-- a dot that is known stays known
pub reached_knows : (b a : Book) (s n : ℕ) → Reached b a → has a.state.vector s n ≡ true → has b.state.vector s n ≡ true
reached_knows b a s n is known =
    let parts = has_parts a.state.vector s n known in
    let more = reached_more b a is s in
    has_from b.state.vector s n parts.0 (omega (arith, parts.1, more))

-- what is covered stays covered
pub reached_covers_too : (b a : Book) (u : List ℕ) → Reached b a → covers a.state.vector u ≡ true → covers b.state.vector u ≡ true
reached_covers_too b a u is covered =
    covers_from b.state.vector u (λ t below. let x = covers_at a.state.vector u t covered below in let y = reached_more b a is t in omega (arith, x, y))

-- what is recorded is then known
pub has_recorded : (K h : ℕ) (a : Image) (c : Change) → is_change_over K h a.vector c ≡ true →
    has (image_after (operation_of c) a).vector (operation_of c).site (operation_of c).n ≡ true
has_recorded K h a c over =
    let o : Operation = operation_of c in
    let is = change_is K h a.vector c over in
    let next = is.operation.next in
    let site = is.operation.site in
    let wide = is.wide in
    let here : get_or (slice_set a.vector o.site o.n) o.site 0 ≡ o.n = get_or-set_same a.vector o.site o.n 0 (omega (arith, site, wide)) in
    has_from (slice_set a.vector o.site o.n) o.site o.n (omega (arith, next)) (omega (arith, here))
