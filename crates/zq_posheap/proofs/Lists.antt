-- Look-ups in a list with an element written.

use Rattle.std.proofs.lemmas.Option.{get_or_from_slice_get, none-some, same_Some, slice_get-get_or, slice_get-map, unwrap_or-slice_get}
use Rattle.indexmap.specs.Layout.{set_value_at}
use Rattle.std.specs.Map.{values_of}
use Rattle.std.proofs.Common.{ap, ◌∙◌, arith, sym}
use Rattle.std.proofs.lemmas.List.{map-set, set-get_or}
use Rattle.std.specs.Prelude.{List, None, Option, Some, is_some, unwrap_or, [], length, map, refl, slice_get, slice_set, suc, zero, ℕ, ◌<◌, ◌∷◌, ◌≡◌, ◌≢◌, ◌+◌, ◌-◌, ◌++◌, swap, swap_remove, take, get_or, option_map}

pub slice_get-set_same : {X : Type 0} (xs : List X) (i : ℕ) (x : X) → i < length xs → slice_get (slice_set xs i x) i ≡ Some x
slice_get-set_same [] i x within = absurd (omega arith)
slice_get-set_same (y ∷ xs) zero x within = refl
slice_get-set_same (y ∷ xs) (suc i) x within = slice_get-set_same xs i x (omega arith)

pub slice_get-set_other : {X : Type 0} (xs : List X) (i j : ℕ) (x : X) → j ≢ i → slice_get (slice_set xs i x) j ≡ slice_get xs j
slice_get-set_other [] i j x apart = refl
slice_get-set_other (y ∷ xs) zero zero x apart = absurd (apart refl)
slice_get-set_other (y ∷ xs) zero (suc j) x apart = refl
slice_get-set_other (y ∷ xs) (suc i) zero x apart = refl
slice_get-set_other (y ∷ xs) (suc i) (suc j) x apart = slice_get-set_other xs i j x (λ e. apart (ap suc e))

pub set_value_at-values : {K X : Type 0} (es : List (K × X)) (i : ℕ) (w : X) → values_of (set_value_at es i w) ≡ slice_set (values_of es) i w
set_value_at-values [] i w = refl
set_value_at-values (e ∷ es) zero w = refl
set_value_at-values (e ∷ es) (suc i) w = ap (λ ws. e.1 ∷ ws) (set_value_at-values es i w)

-- two elements in each other's place, as two writes
pub swap-set : {X : Type 0} (xs : List X) (i j : ℕ) (x y : X) → slice_get xs i ≡ Some x → slice_get xs j ≡ Some y → swap xs i j ≡ slice_set (slice_set xs i y) j x
swap-set [] i j x y at_i at_j = refl
swap-set (d ∷ ys) i j x y at_i at_j =
    let from : get_or (d ∷ ys) i d ≡ x = get_or_from_slice_get (d ∷ ys) i x d at_i in
    let to : get_or (d ∷ ys) j d ≡ y = get_or_from_slice_get (d ∷ ys) j y d at_j in
    λ k. slice_set (slice_set (d ∷ ys) i (to k)) j (from k)

-- what a map of a list sees of two elements in each other's place
pub map-swap : {X Y : Type 0} (f : X → Y) (xs : List X) (i j : ℕ) (x y : X) → slice_get xs i ≡ Some x → slice_get xs j ≡ Some y → map f (swap xs i j) ≡ swap (map f xs) i j
map-swap f xs i j x y at_i at_j =
    ap (map f) (swap-set xs i j x y at_i at_j) ∙ map-set f (slice_set xs i y) j x ∙ ap (λ ys. slice_set ys j (f x)) (map-set f xs i y)
    ∙ sym (swap-set (map f xs) i j (f x) (f y) (slice_get-map f xs i ∙ ap (option_map f) at_i) (slice_get-map f xs j ∙ ap (option_map f) at_j))

pub slice_get-take : {X : Type 0} (n : ℕ) (xs : List X) (i : ℕ) → i < n → slice_get (take n xs) i ≡ slice_get xs i
slice_get-take zero xs i within = absurd (omega arith)
slice_get-take (suc n) [] i within = refl
slice_get-take (suc n) (x ∷ xs) zero within = refl
slice_get-take (suc n) (x ∷ xs) (suc i) within = slice_get-take n xs i (omega arith)

pub slice_get-append_left : {X : Type 0} (xs ys : List X) (i : ℕ) → i < length xs → slice_get (xs ++ ys) i ≡ slice_get xs i
slice_get-append_left [] ys i within = absurd (omega arith)
slice_get-append_left (x ∷ xs) ys zero within = refl
slice_get-append_left (x ∷ xs) ys (suc i) within = slice_get-append_left xs ys i (omega arith)

pub slice_get-append_end : {X : Type 0} (xs : List X) (y : X) → slice_get (xs ++ y ∷ []) (length xs) ≡ Some y
slice_get-append_end [] y = refl
slice_get-append_end (x ∷ xs) y = slice_get-append_end xs y

-- the last element in the place of another, and one place less
pub swap_remove_other : {X : Type 0} (xs : List X) (i j : ℕ) (d : X) → j ≢ i → j + 1 < length xs → slice_get (swap_remove xs i d) j ≡ slice_get xs j
swap_remove_other xs i j d apart within = slice_get-take (length xs - 1) (slice_set xs i (get_or xs (length xs - 1) d)) j (omega arith) ∙ slice_get-set_other xs i j _ apart

pub swap_remove_here : {X : Type 0} (xs : List X) (i : ℕ) (d : X) → i + 1 < length xs → slice_get (swap_remove xs i d) i ≡ slice_get xs (length xs - 1)
swap_remove_here xs i d within =
    slice_get-take (length xs - 1) (slice_set xs i (get_or xs (length xs - 1) d)) i (omega arith) ∙ slice_get-set_same xs i _ (omega arith)
    ∙ sym (slice_get-get_or xs (length xs - 1) d (omega arith))

-- two maps of a list are one where they agree on each element
pub map_agree : {X Y : Type 0} (f g : X → Y) (xs : List X) → ((i : ℕ) (x : X) → slice_get xs i ≡ Some x → f x ≡ g x) → map f xs ≡ map g xs
map_agree f g [] agree = refl
map_agree f g (x ∷ xs) agree = λ k. agree zero x refl k ∷ map_agree f g xs (λ i y at. agree (suc i) y at) k

-- and where they agree on each other element, once one is written
pub set_agree : {X Y : Type 0} (f g : X → Y) (xs : List X) (i : ℕ) (z : Y) → ((j : ℕ) (x : X) → slice_get xs j ≡ Some x → j ≢ i → f x ≡ g x) → slice_set (map f xs) i z ≡ slice_set (map g xs) i z
set_agree f g [] i z agree = refl
set_agree f g (x ∷ xs) zero z agree = ap (λ ys. z ∷ ys) (map_agree f g xs (λ j y at. agree (suc j) y at (λ e. omega (arith, e))))
set_agree f g (x ∷ xs) (suc i) z agree = λ k. agree zero x refl (λ e. omega (arith, e)) k ∷ set_agree f g xs i z (λ j y at apart. agree (suc j) y at (λ e. apart (omega (arith, e)))) k

-- what stands at an index
pub there_is : {X : Type 0} (xs : List X) (i : ℕ) → i < length xs → (x : X) × (slice_get xs i ≡ Some x)
there_is [] i within = absurd (omega arith)
there_is (x ∷ xs) zero within = (x, refl)
there_is (x ∷ xs) (suc i) within = there_is xs i (omega arith)

pub get_or_same : {X : Type 0} (xs ys : List X) (i j : ℕ) (d : X) → slice_get xs i ≡ slice_get ys j → get_or xs i d ≡ get_or ys j d
get_or_same xs ys i j d is = sym (unwrap_or-slice_get xs i d) ∙ ap (λ o. unwrap_or o d) is ∙ unwrap_or-slice_get ys j d

pub is_some-map : {X Y : Type 0} (f : X → Y) (o : Option X) → is_some (option_map f o) ≡ is_some o
is_some-map f None = refl
is_some-map f (Some x) = refl

-- what `pop` gave is the last
pub last_is : {X : Type 0} (xs : List X) (len : ℕ) (r : Option X) (x : X) → 0 < length xs → len ≡ length xs →
    ((d : X) → 0 < len → r ≡ Some (get_or xs (len - 1) d)) → r ≡ Some x → slice_get xs (length xs - 1) ≡ Some x
last_is xs len r x some long gives is = slice_get-get_or xs (length xs - 1) x (omega arith) ∙ (λ k. Some (get_or xs (long' k) x)) ∙ sym (gives x (omega arith)) ∙ is
  where
    long' : length xs - 1 ≡ len - 1
    long' = omega arith

-- what an option holds, behind what is seen of it
pub option_map_some : {X Y : Type 0} (f : X → Y) (o : Option X) (y : Y) → option_map f o ≡ Some y → (x : X) × (o ≡ Some x) × (f x ≡ y)
option_map_some f None y e = absurd (none-some y e)
option_map_some f (Some x) y e = (x, refl, same_Some (f x) y e)

-- what stands at an index, seen through a function
pub mapped_at : {X Y : Type 0} (f : X → Y) (xs : List X) (i : ℕ) (x : X) → slice_get xs i ≡ Some x → slice_get (map f xs) i ≡ Some (f x)
mapped_at f xs i x at = slice_get-map f xs i ∙ ap (option_map f) at

-- and what is behind what is seen
pub behind : {X Y : Type 0} (f : X → Y) (xs : List X) (i : ℕ) (y : Y) → slice_get (map f xs) i ≡ Some y → (x : X) × (slice_get xs i ≡ Some x) × (f x ≡ y)
behind f xs i y at = option_map_some f (slice_get xs i) y (sym (slice_get-map f xs i) ∙ at)

-- what an index reads, as a look-up
pub read_at : {X : Type 0} (xs : List X) (i : ℕ) (x : X) → i < length xs → x ≡ get_or xs i x → slice_get xs i ≡ Some x
read_at xs i x within is = slice_get-get_or xs i x within ∙ ap (λ y. Some y) (sym is)

-- what stands there already, written again
pub set_again : {X : Type 0} (xs : List X) (i : ℕ) (x : X) → slice_get xs i ≡ Some x → slice_set xs i x ≡ xs
set_again xs i x at = ap (slice_set xs i) (sym (get_or_from_slice_get xs i x x at)) ∙ set-get_or xs i x

-- writes at two places, in either order
pub set_either : {X : Type 0} (xs : List X) (i j : ℕ) (x y : X) → i ≢ j → slice_set (slice_set xs i x) j y ≡ slice_set (slice_set xs j y) i x
set_either [] i j x y apart = refl
set_either (z ∷ xs) zero zero x y apart = absurd (apart refl)
set_either (z ∷ xs) zero (suc j) x y apart = refl
set_either (z ∷ xs) (suc i) zero x y apart = refl
set_either (z ∷ xs) (suc i) (suc j) x y apart = ap (λ ys. z ∷ ys) (set_either xs i j x y (λ e. apart (ap suc e)))

-- two elements change places alike in either order
pub swap_either : {X : Type 0} (xs : List X) (i j : ℕ) (x y : X) → i ≢ j → slice_get xs i ≡ Some x → slice_get xs j ≡ Some y → swap xs i j ≡ swap xs j i
swap_either xs i j x y apart at_i at_j = swap-set xs i j x y at_i at_j ∙ set_either xs i j y x apart ∙ sym (swap-set xs j i y x at_j at_i)
