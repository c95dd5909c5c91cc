-- Lists of pairs in order, or in the order turned round, put together.

use Rattle.std.proofs.Common.{Bool, Equal, Greater, Less, List, [], ap, arith, drop, false, inl, inr, min, refl, reverse, subst, suc, sym, take, true, true≢false, zero, ℕ, ◌++◌, ◌+◌, ◌-◌, ◌∙◌, ◌∷◌, ◌≡◌, ◌≤◌, ◌⊎◌, cond}
use Rattle.std.proofs.lemmas.Bool.{cond-false, cond-true}
use Rattle.std.proofs.lemmas.Grind.{reverse_onto}
use Rattle.std.proofs.lemmas.List.{append-nil, append_assoc, drop_all}
use Rattle.std.specs.Ordering.{is_lt, ordering_reverse}
use Rattle.std.specs.Prelude.{None, Some, filter, if◌then◌else◌, length, slice_get}
use Rattle.zq_commands.proofs.RanPlans.{drop_at}
use Rattle.zq_commands.specs.Weaving.{goes_before, is_next, woven}
use Rattle.zq_model.proofs.Membership.{in_left, in_right, in_union}
use Rattle.zq_model.proofs.Rising.{less_from, not_below_itself, scored_exact, scored_total}
use Rattle.zq_model.specs.Meaning.{IsRising, Scored, scored_cmp}
use Rattle.zq_model.specs.Sets.{IsIn}
use Rattle.zq_model.proofs.Lists.{in_filter_from}
use Rattle.zq_model.specs.Moves.{Queue}
use Rattle.zq_model.specs.Readings.{is_before}
use Rattle.zq_semantics.specs.Ranges.{turned_if}

-- ---- the order

pub before_trans : (t : Bool) (x y z : Scored) → goes_before t x y ≡ true → goes_before t y z ≡ true → goes_before t x z ≡ true
before_trans false x y z a b = ap is_lt (scored_total.trans x y z (less_from (scored_cmp x y) a) (less_from (scored_cmp y z) b))
before_trans true x y z a b = ap is_lt (scored_total.trans z y x (less_from (scored_cmp z y) b) (less_from (scored_cmp y x) a))

not_both : (t : Bool) (x y : Scored) → goes_before t x y ≡ true → goes_before t y x ≡ true → ⊥
not_both false x y a b = not_below_itself x (scored_total.trans x y x (less_from (scored_cmp x y) a) (less_from (scored_cmp y x) b))
not_both true x y a b = not_below_itself x (scored_total.trans x y x (less_from (scored_cmp x y) b) (less_from (scored_cmp y x) a))

-- of two unlike pairs one goes before the other
later_first : (x y : Scored) → (x ≡ y → ⊥) → is_before x y ≡ false → is_before y x ≡ true
later_first x y unlike away =
    elim (scored_cmp x y) as (λ r. scored_cmp x y ≡ r → is_lt r ≡ false → is_before y x ≡ true) [
      | Less ↦ λ e f. absurd (true≢false f)
      | Equal ↦ λ e f. absurd (unlike (scored_exact x y e))
      | Greater ↦ λ e f. ap is_lt (scored_total.antisymm y x ∙ ap ordering_reverse e)
    ] refl away

pub other_first : (t : Bool) (x y : Scored) → (x ≡ y → ⊥) → goes_before t x y ≡ false → goes_before t y x ≡ true
other_first false x y unlike away = later_first x y unlike away
other_first true x y unlike away = later_first y x (λ e. unlike (sym e)) away

-- ---- lists in order

-- each goes before all that follow it
abbrev pub AreInOrder : Bool → Queue → Type 0
AreInOrder t [] = Unit {0}
AreInOrder t (x ∷ q) = ((y : Scored) → IsIn y q → goes_before t x y ≡ true) × AreInOrder t q

rising_order : (q : Queue) → IsRising q → AreInOrder false q
rising_order [] rising = tt
rising_order (x ∷ q) rising = (λ y here. ap is_lt (rising.0 y here), rising_order q rising.1)

order_behind : (t : Bool) (q : Queue) (x : Scored) → AreInOrder t q → ((y : Scored) → IsIn y q → goes_before t y x ≡ true) → AreInOrder t (q ++ x ∷ [])
order_behind t [] x order before = (λ y here. absurd here, tt)
order_behind t (z ∷ q) x order before = (
  λ y here. elim (in_union y q (x ∷ []) here) [
    | inl there ↦ order.0 y there
    | inr (inl same) ↦ subst (λ w. goes_before t z w ≡ true) same (before z (inl refl))
    | inr (inr none) ↦ absurd none
  ],
  order_behind t q x order.1 (λ y here. before y (inr here)),
)

pub in_reverse : (q : Queue) (y : Scored) → IsIn y (reverse q) → IsIn y q
in_reverse [] y here = absurd here
in_reverse (x ∷ q) y here = elim (in_union y (reverse q) (x ∷ []) (subst (λ r. IsIn y r) (reverse_onto q x []) here)) [
  | inl there ↦ inr (in_reverse q y there)
  | inr (inl same) ↦ inl same
  | inr (inr none) ↦ absurd none
]

reverse_in : (q : Queue) (y : Scored) → IsIn y q → IsIn y (reverse q)
reverse_in [] y here = absurd here
reverse_in (x ∷ q) y (inl same) = subst (λ r. IsIn y r) (sym (reverse_onto q x [])) (in_right y (reverse q) (x ∷ []) (inl same))
reverse_in (x ∷ q) y (inr later) = subst (λ r. IsIn y r) (sym (reverse_onto q x [])) (in_left y (reverse q) (x ∷ []) (reverse_in q y later))

reverse_order : (q : Queue) → IsRising q → AreInOrder true (reverse q)
reverse_order [] rising = tt
reverse_order (x ∷ q) rising =
    subst (AreInOrder true) (sym (reverse_onto q x []))
    (order_behind true (reverse q) x (reverse_order q rising.1) (λ y here. ap is_lt (rising.0 y (in_reverse q y here))))

pub turned_order : (t : Bool) (q : Queue) → IsRising q → AreInOrder t (turned_if t q)
turned_order false q rising = rising_order q rising
turned_order true q rising = reverse_order q rising

pub in_turned_if : (t : Bool) (q : Queue) (y : Scored) → IsIn y (turned_if t q) → IsIn y q
in_turned_if false q y here = here
in_turned_if true q y here = in_reverse q y here

pub turned_if_in : (t : Bool) (q : Queue) (y : Scored) → IsIn y q → IsIn y (turned_if t q)
turned_if_in false q y here = here
turned_if_in true q y here = reverse_in q y here

pub filter_order : (t : Bool) (p : Scored → Bool) (q : Queue) → AreInOrder t q → AreInOrder t (filter p q)
filter_order t p [] order = tt
filter_order t p (x ∷ q) order =
    elim (p x) as (λ b. AreInOrder t (cond b (x ∷ filter p q) (filter p q))) [
      | true ↦ (λ y here. order.0 y (in_filter_from p q y here).0, filter_order t p q order.1)
      | false ↦ filter_order t p q order.1
    ]

-- ---- one list of two

-- the pairs of c are those of a and of b
pub record AreOf (c a b : Queue) : Type 0 where
  pub from : (y : Scored) → IsIn y c → IsIn y a ⊎ IsIn y b
  pub first : (y : Scored) → IsIn y a → IsIn y c
  pub second : (y : Scored) → IsIn y b → IsIn y c

swapped : (c a b : Queue) → AreOf c a b → AreOf c b a
swapped c a b of = record {
  from = λ y here. elim (of.from y here) [ inl one ↦ inr one | inr other ↦ inl other ];
  first = of.second;
  second = of.first;
}

module _ (t : Bool) where
  -- a pair that goes before all others of a list in order stands first
  stands_first : (x z : Scored) (c : Queue) → AreInOrder t (z ∷ c) → IsIn x (z ∷ c) → ((y : Scored) → IsIn y (z ∷ c) → (x ≡ y) ⊎ (goes_before t x y ≡ true)) → z ≡ x
  stands_first x z c order (inl same) least = same
  stands_first x z c order (inr later) least = elim (least z (inl refl)) [
    | inl same ↦ sym same
    | inr before ↦ absurd (not_both t x z before (order.0 x later))
  ]

  away : (x y z : Scored) → z ≡ x → z ≡ y → goes_before t x y ≡ true → ⊥
  away x y z first second before = let itself = subst (λ w. goes_before t x w ≡ true) (sym second ∙ first) before in not_both t x x itself itself

  -- without its first pair, which is that of the first list
  without_first : (x z : Scored) (c a b : Queue) → z ≡ x → AreInOrder t (z ∷ c) → AreInOrder t (x ∷ a) → ((y : Scored) → IsIn y b → goes_before t x y ≡ true) → AreOf (z ∷ c) (x ∷ a) b → AreOf c a b
  without_first x z c a b same order first before of = record {
    from = λ y here. elim (of.from y (inr here)) [
      | inl (inl it) ↦ absurd (away x y z same (same ∙ it) (subst (λ w. goes_before t w y ≡ true) same (order.0 y here)))
      | inl (inr later) ↦ inl later
      | inr there ↦ inr there
    ];
    first = λ y here. elim (of.first y (inr here)) [ inl it ↦ absurd (away x y z same it (first.0 y here)) | inr later ↦ later ];
    second = λ y here. elim (of.second y here) [ inl it ↦ absurd (away x y z same it (before y here)) | inr later ↦ later ];
  }

  -- the first so many of a list in order are woven of the two lists that it is of
  take_woven : (n : ℕ) (a b c : Queue) → AreInOrder t a → AreInOrder t b → AreInOrder t c → ((y : Scored) → IsIn y a → IsIn y b → ⊥) → AreOf c a b → take n c ≡ woven t n a b
  take_woven zero a b c oa ob oc apart of = refl
  take_woven (suc n) [] [] [] oa ob oc apart of = refl
  take_woven (suc n) [] [] (z ∷ c) oa ob oc apart of = elim (of.from z (inl refl)) [ inl none ↦ absurd none | inr none ↦ absurd none ]
  take_woven (suc n) [] (y ∷ b) [] oa ob oc apart of = absurd (of.second y (inl refl))
  take_woven (suc n) [] (y ∷ b) (z ∷ c) oa ob oc apart of =
      let least = λ (w : Scored) (here : IsIn w (z ∷ c)). elim (of.from w here) as (λ _. (y ≡ w) ⊎ (goes_before t y w ≡ true)) [
        | inl none ↦ absurd none
        | inr (inl it) ↦ inl it
        | inr (inr later) ↦ inr (ob.0 w later)
      ] in
      let same : z ≡ y = stands_first y z c oc (of.second y (inl refl)) least in
      let left = swapped c b [] (without_first y z c b [] same oc ob (λ w none. absurd none) (swapped (z ∷ c) [] (y ∷ b) of)) in
      let rest = take_woven n [] b c tt ob.1 oc.1 (λ w none there. none) left in
      λ i. same i ∷ rest i
  take_woven (suc n) (x ∷ a) [] [] oa ob oc apart of = absurd (of.first x (inl refl))
  take_woven (suc n) (x ∷ a) [] (z ∷ c) oa ob oc apart of =
      let least = λ (w : Scored) (here : IsIn w (z ∷ c)). elim (of.from w here) as (λ _. (x ≡ w) ⊎ (goes_before t x w ≡ true)) [
        | inl (inl it) ↦ inl it
        | inl (inr later) ↦ inr (oa.0 w later)
        | inr none ↦ absurd none
      ] in
      let same : z ≡ x = stands_first x z c oc (of.first x (inl refl)) least in
      let rest = take_woven n a [] c oa.1 tt oc.1 (λ w here none. none) (without_first x z c a [] same oc oa (λ w none. absurd none) of) in
      λ i. same i ∷ rest i
  take_woven (suc n) (x ∷ a) (y ∷ b) [] oa ob oc apart of = absurd (of.first x (inl refl))
  take_woven (suc n) (x ∷ a) (y ∷ b) (z ∷ c) oa ob oc apart of =
      elim (goes_before t x y) as (λ r. goes_before t x y ≡ r → z ∷ take n c ≡ (if r then x ∷ woven t n a (y ∷ b) else y ∷ woven t n (x ∷ a) b)) [
        | true ↦ λ e.
            let before = λ (w : Scored) (here : IsIn w (y ∷ b)). elim here as (λ _. goes_before t x w ≡ true) [
              | inl it ↦ subst (λ v. goes_before t x v ≡ true) it e
              | inr later ↦ before_trans t x y w e (ob.0 w later)
            ] in
            let least = λ (w : Scored) (here : IsIn w (z ∷ c)). elim (of.from w here) as (λ _. (x ≡ w) ⊎ (goes_before t x w ≡ true)) [
              | inl (inl it) ↦ inl it
              | inl (inr later) ↦ inr (oa.0 w later)
              | inr there ↦ inr (before w there)
            ] in
            let same : z ≡ x = stands_first x z c oc (of.first x (inl refl)) least in
            let rest = take_woven n a (y ∷ b) c oa.1 ob oc.1 (λ w here. apart w (inr here)) (without_first x z c a (y ∷ b) same oc oa before of) in
            λ i. same i ∷ rest i
        | false ↦ λ e.
            let turned = other_first t x y (λ it. apart y (inl it) (inl refl)) e in
            let before = λ (w : Scored) (here : IsIn w (x ∷ a)). elim here as (λ _. goes_before t y w ≡ true) [
              | inl it ↦ subst (λ v. goes_before t y v ≡ true) it turned
              | inr later ↦ before_trans t y x w turned (oa.0 w later)
            ] in
            let least = λ (w : Scored) (here : IsIn w (z ∷ c)). elim (of.from w here) as (λ _. (y ≡ w) ⊎ (goes_before t y w ≡ true)) [
              | inl there ↦ inr (before w there)
              | inr (inl it) ↦ inl it
              | inr (inr later) ↦ inr (ob.0 w later)
            ] in
            let same : z ≡ y = stands_first y z c oc (of.second y (inl refl)) least in
            let left = swapped c b (x ∷ a) (without_first y z c b (x ∷ a) same oc ob before (swapped (z ∷ c) (x ∷ a) (y ∷ b) of)) in
            let rest = take_woven n (x ∷ a) b c oa ob.1 oc.1 (λ w here there. apart w here (inr there)) left in
            λ i. same i ∷ rest i
      ] refl

  -- no more than so many of each list are asked for
  woven_takes : (n m k : ℕ) → n ≤ m → n ≤ k → (a b : Queue) → woven t n (take m a) (take k b) ≡ woven t n a b
  woven_takes zero m k low lower a b = refl
  woven_takes (suc n) zero k low lower a b = absurd (omega (arith, low))
  woven_takes (suc n) (suc m) zero low lower a b = absurd (omega (arith, lower))
  woven_takes (suc n) (suc m) (suc k) low lower [] [] = refl
  woven_takes (suc n) (suc m) (suc k) low lower [] (y ∷ b) = ap (λ q. y ∷ q) (woven_takes n (suc m) k (omega (arith, low)) (omega (arith, lower)) [] b)
  woven_takes (suc n) (suc m) (suc k) low lower (x ∷ a) [] = ap (λ q. x ∷ q) (woven_takes n m (suc k) (omega (arith, low)) (omega (arith, lower)) a [])
  woven_takes (suc n) (suc m) (suc k) low lower (x ∷ a) (y ∷ b) =
      elim (goes_before t x y) as (λ r. (if r then x ∷ woven t n (take m a) (y ∷ take k b) else y ∷ woven t n (x ∷ take m a) (take k b)) ≡
      (if r then x ∷ woven t n a (y ∷ b) else y ∷ woven t n (x ∷ a) b)) [
        | true ↦ ap (λ q. x ∷ q) (woven_takes n m (suc k) (omega (arith, low)) (omega (arith, lower)) a (y ∷ b))
        | false ↦ ap (λ q. y ∷ q) (woven_takes n (suc m) k (omega (arith, low)) (omega (arith, lower)) (x ∷ a) b)
      ]

  -- ---- one pair after the other

  pub woven_alone : (n : ℕ) (a : Queue) → woven t n a [] ≡ take n a
  woven_alone zero a = refl
  woven_alone (suc n) [] = refl
  woven_alone (suc n) (x ∷ a) = ap (λ q. x ∷ q) (woven_alone n a)

  from_left : (n : ℕ) (x : Scored) (a b : Queue) → is_next t (Some x) (slice_get b 0) ≡ true → woven t (suc n) (x ∷ a) b ≡ x ∷ woven t n a b
  from_left n x a [] next = refl
  from_left n x a (y ∷ b) next = cond-true (goes_before t x y) (x ∷ woven t n a (y ∷ b)) (y ∷ woven t n (x ∷ a) b) next

  from_right : (n : ℕ) (y : Scored) (a b : Queue) → is_next t (slice_get a 0) (Some y) ≡ false → woven t (suc n) a (y ∷ b) ≡ y ∷ woven t n a b
  from_right n y [] b next = refl
  from_right n y (x ∷ a) b next = cond-false (goes_before t x y) (x ∷ woven t n a (y ∷ b)) (y ∷ woven t n (x ∷ a) b) next

  from_none : (n : ℕ) (a : Queue) → is_next t (slice_get a 0) None ≡ false → woven t n a [] ≡ []
  from_none zero a next = refl
  from_none (suc n) [] next = refl
  from_none (suc n) (x ∷ a) next = absurd (true≢false next)

  get_drop : {X : Type 0} (xs : List X) (i : ℕ) → slice_get (drop i xs) 0 ≡ slice_get xs i
  get_drop [] zero = refl
  get_drop [] (suc i) = refl
  get_drop (x ∷ xs) zero = refl
  get_drop (x ∷ xs) (suc i) = get_drop xs i

  -- where a weaving stands: after some pairs of each list
  module _ (most n m : ℕ) (a b done : Queue) (i j : ℕ) (here : woven t most a b ≡ done ++ woven t n (drop i a) (drop j b)) where
    pub weave_left : (x : Scored) → n ≡ suc m → slice_get a i ≡ Some x → is_next t (slice_get a i) (slice_get b j) ≡ true →
        woven t most a b ≡ (done ++ x ∷ []) ++ woven t m (drop (i + 1) a) (drop j b)
    weave_left x one at next =
        let first : is_next t (Some x) (slice_get (drop j b) 0) ≡ true = ap (is_next t (Some x)) (get_drop b j) ∙ ap (λ p. is_next t p (slice_get b j)) (sym at) ∙ next in
        here ∙ ap (λ k. done ++ woven t k (drop i a) (drop j b)) one ∙ ap (λ q. done ++ woven t (suc m) q (drop j b)) (drop_at a i x at)
        ∙ ap (λ q. done ++ q) (from_left m x (drop (i + 1) a) (drop j b) first) ∙ sym (append_assoc done (x ∷ []) (woven t m (drop (i + 1) a) (drop j b)))

    pub weave_right : (y : Scored) → n ≡ suc m → slice_get b j ≡ Some y → is_next t (slice_get a i) (slice_get b j) ≡ false →
        woven t most a b ≡ (done ++ y ∷ []) ++ woven t m (drop i a) (drop (j + 1) b)
    weave_right y one at next =
        let second : is_next t (slice_get (drop i a) 0) (Some y) ≡ false = ap (λ p. is_next t p (Some y)) (get_drop a i) ∙ ap (is_next t (slice_get a i)) (sym at) ∙ next in
        here ∙ ap (λ k. done ++ woven t k (drop i a) (drop j b)) one ∙ ap (λ q. done ++ woven t (suc m) (drop i a) q) (drop_at b j y at)
        ∙ ap (λ q. done ++ q) (from_right m y (drop i a) (drop (j + 1) b) second) ∙ sym (append_assoc done (y ∷ []) (woven t m (drop i a) (drop (j + 1) b)))

    -- until there are none, or there are enough
    pub weave_out : length b ≤ j → is_next t (slice_get a i) (slice_get b j) ≡ false → done ≡ woven t most a b
    weave_out past next =
        let none : drop j b ≡ [] = drop_all j b past in
        let second : is_next t (slice_get (drop i a) 0) None ≡ false =
        ap (λ p. is_next t p None) (get_drop a i) ∙ ap (is_next t (slice_get a i)) (sym (ap (λ q. slice_get q 0) none) ∙ get_drop b j) ∙ next in
        sym (here ∙ ap (λ q. done ++ woven t n (drop i a) q) none ∙ ap (λ q. done ++ q) (from_none n (drop i a) second) ∙ append-nil done)

    pub weave_enough : n ≡ 0 → done ≡ woven t most a b
    weave_enough all = sym (here ∙ ap (λ k. done ++ woven t k (drop i a) (drop j b)) all ∙ append-nil done)

  -- what is woven of two lists is woven of the first so many of each
  pub woven_first : (n : ℕ) (a b c : Queue) → AreInOrder t a → AreInOrder t b → AreInOrder t c → ((y : Scored) → IsIn y a → IsIn y b → ⊥) → AreOf c a b →
      take n c ≡ woven t n (take n a) (take n b)
  woven_first n a b c oa ob oc apart of = take_woven n a b c oa ob oc apart of ∙ sym (woven_takes n n n (omega arith) (omega arith) a b)

-- the first so many are no more than there are
pub woven_most : (t : Bool) (n : ℕ) (first second : Queue) (m : ℕ) → m ≡ min n (length first + length second) → woven t m first second ≡ woven t n first second
woven_most t zero first second m is = let none : m ≡ 0 = omega (arith, is) in ap (λ k. woven t k first second) none
woven_most t (suc n) [] [] m is = let none : m ≡ 0 = omega (arith, is) in ap (λ k. woven t k [] []) none
woven_most t (suc n) [] (q ∷ second) m is =
    let more : m ≡ suc (m - 1) = omega (arith, is) in
    ap (λ k. woven t k [] (q ∷ second)) more ∙ ap (λ r. q ∷ r) (woven_most t n [] second (m - 1) (omega (arith, is)))
woven_most t (suc n) (p ∷ first) [] m is =
    let more : m ≡ suc (m - 1) = omega (arith, is) in
    ap (λ k. woven t k (p ∷ first) []) more ∙ ap (λ r. p ∷ r) (woven_most t n first [] (m - 1) (omega (arith, is)))
woven_most t (suc n) (p ∷ first) (q ∷ second) m is =
    let more : m ≡ suc (m - 1) = omega (arith, is) in
    let left = woven_most t n first (q ∷ second) (m - 1) (omega (arith, is)) in
    let right = woven_most t n (p ∷ first) second (m - 1) (omega (arith, is)) in
    ap (λ k. woven t k (p ∷ first) (q ∷ second)) more
    ∙ (λ i. if goes_before t p q then p ∷ left i else q ∷ right i)
