-- What stands in a list that is made of others.
use Rattle.std.proofs.Common.{◌≡◌, ◌⊎◌, cond, List, None, Option, Ordering, Some, [], ◌∷◌, filter_map, flat_map, inl, inr, is_some, map, refl, subst, sym, ap, true, false, true≢false, ◌∙◌}
use Rattle.std.specs.Cmp.{IsTotalOrder}
use Rattle.std.specs.FinMap.{FinMap, IsAntisymmetric, contains_key-keys, get, keys}
use Rattle.std.specs.List.{cons_option, list_any}
use Rattle.std.specs.Ordering.{eq_by_cmp}
use Rattle.zq_model.proofs.Maps.{get-map_on, key_same, same_key}
use Rattle.zq_model.proofs.Membership.{any_in, any_some, in_left, in_right, in_union}
use Rattle.zq_model.specs.Image.{map_on}
use Rattle.zq_model.specs.Sets.{IsIn}

pub in_map_from : {X Y : Type 0} (f : X → Y) (y : Y) (xs : List X) → IsIn y (map f xs) → (x : X) × IsIn x xs × (f x ≡ y)
in_map_from f y [] here = absurd here
in_map_from f y (x ∷ xs) (inl same) = (x, inl refl, same)
in_map_from f y (x ∷ xs) (inr later) = let rest = in_map_from f y xs later in (rest.0, inr rest.1, rest.2)

pub in_flat_map : {X Y : Type 0} (f : X → List Y) (y : Y) (x : X) (xs : List X) → IsIn x xs → IsIn y (f x) → IsIn y (flat_map f xs)
in_flat_map f y x [] here there = absurd here
in_flat_map f y x (z ∷ xs) (inl same) there = in_left y (f z) (flat_map f xs) (subst (λ w. IsIn y (f w)) (sym same) there)
in_flat_map f y x (z ∷ xs) (inr later) there = in_right y (f z) (flat_map f xs) (in_flat_map f y x xs later there)

pub in_flat_map_from : {X Y : Type 0} (f : X → List Y) (y : Y) (xs : List X) → IsIn y (flat_map f xs) → (x : X) × IsIn x xs × IsIn y (f x)
in_flat_map_from f y [] here = absurd here
in_flat_map_from f y (x ∷ xs) here = elim (in_union y (f x) (flat_map f xs) here) [
  | inl first ↦ (x, inl refl, first)
  | inr later ↦ let rest = in_flat_map_from f y xs later in (rest.0, inr rest.1, rest.2)
]

in_cons_option : {Y : Type 0} (y : Y) (r : Option Y) (ys : List Y) → IsIn y ys → IsIn y (cons_option r ys)
in_cons_option y None ys here = here
in_cons_option y (Some z) ys here = inr here

pub in_filter_map : {X Y : Type 0} (f : X → Option Y) (y : Y) (x : X) (xs : List X) → IsIn x xs → f x ≡ Some y → IsIn y (filter_map f xs)
in_filter_map f y x [] here is = absurd here
in_filter_map f y x (z ∷ xs) (inl same) is = subst (λ r. IsIn y (cons_option r (filter_map f xs))) (sym (ap f same ∙ is)) (inl refl)
in_filter_map f y x (z ∷ xs) (inr later) is = in_cons_option y (f z) (filter_map f xs) (in_filter_map f y x xs later is)

in_cons_option_from : {Y : Type 0} (y : Y) (r : Option Y) (ys : List Y) → IsIn y (cons_option r ys) → (r ≡ Some y) ⊎ IsIn y ys
in_cons_option_from y None ys here = inr here
in_cons_option_from y (Some z) ys (inl same) = inl (ap (λ w. Some w) same)
in_cons_option_from y (Some z) ys (inr later) = inr later

pub in_filter_map_from : {X Y : Type 0} (f : X → Option Y) (y : Y) (xs : List X) → IsIn y (filter_map f xs) → (x : X) × IsIn x xs × (f x ≡ Some y)
in_filter_map_from f y [] here = absurd here
in_filter_map_from f y (x ∷ xs) here = elim (in_cons_option_from y (f x) (filter_map f xs) here) [
  | inl first ↦ (x, inl refl, first)
  | inr later ↦ let rest = in_filter_map_from f y xs later in (rest.0, inr rest.1, rest.2)
]

module _ {K X : Type 0} {R : K → K → Ordering} (o : IsTotalOrder R) (exact : IsAntisymmetric R) where
  -- the keys of a map are those at which it has something
  pub key_in : (m : FinMap R X) (q : K) → is_some (get m q) ≡ true → IsIn q (keys m)
  key_in m q some =
      let found = any_some (eq_by_cmp R q) (keys m) (sym (contains_key-keys m q) ∙ some) in
      subst (λ k. IsIn k (keys m)) (sym (same_key exact q found.0 found.2)) found.1

  pub in_key : (m : FinMap R X) (q : K) → IsIn q (keys m) → is_some (get m q) ≡ true
  in_key m q here = contains_key-keys m q ∙ any_in (eq_by_cmp R q) (keys m) q here (key_same o q q refl)

  -- the keys of a map that has something at each of a list are that list's members
  pub key_of_list : (f : K → X) (qs : List K) (q : K) → IsIn q (keys (map_on R (λ k. Some (f k)) qs)) → IsIn q qs
  key_of_list f qs q here =
      let found = in_key (map_on R (λ k. Some (f k)) qs) q here in
      let is = get-map_on o exact (λ k. Some (f k)) qs q in
      elim (list_any (eq_by_cmp R q) qs) as (λ b. list_any (eq_by_cmp R q) qs ≡ b → is_some (cond b (Some (f q)) None) ≡ true → IsIn q qs) [
        | true ↦ λ among some. let k = any_some (eq_by_cmp R q) qs among in subst (λ z. IsIn z qs) (sym (same_key exact q k.0 k.2)) k.1
        | false ↦ λ away none. absurd (true≢false (sym none))
      ] refl (ap is_some (sym is) ∙ found)

  pub key_from_list : (f : K → X) (qs : List K) (q : K) → IsIn q qs → IsIn q (keys (map_on R (λ k. Some (f k)) qs))
  key_from_list f qs q here =
      key_in (map_on R (λ k. Some (f k)) qs) q
      (ap is_some (get-map_on o exact (λ k. Some (f k)) qs q ∙ ap (λ b. cond b (Some (f q)) None) (any_in (eq_by_cmp R q) qs q here (key_same o q q refl))))
