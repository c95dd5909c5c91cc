-- Maps: what the map of a function has at a key, and the order of places.

use Rattle.std.proofs.Common.{Bool, Equal, Greater, Less, List, None, Option, Ordering, Some, [], ap, cond, false, inl, inr, is_some, map, refl, subst, sym, true, true≢false, ◌||◌, ◌∙◌, ◌∷◌, ◌≡◌}
use Rattle.std.proofs.lemmas.Cmp.{nat_list_cmp_total, on_total, then_total, tied_itself}
use Rattle.std.proofs.lemmas.Map.Lookups.{exact_bytes, exact_pairs}
use Rattle.std.specs.Cmp.{IsTotalOrder}
use Rattle.std.specs.Cmp.Lexicographic.{slice_cmp}
use Rattle.std.specs.FinMap.{FinMap, IsAntisymmetric, contains_key-keys, get, get-empty, get-insert, keys}
use Rattle.std.specs.List.{list_any}
use Rattle.std.specs.Ordering.{eq_by_cmp, is_eq, nat_cmp}
use Rattle.zq_model.specs.Image.{Place, insert_option, map_on, place_cmp}
use Rattle.zq_model.specs.Sets.{IsIn}

pub place_total : IsTotalOrder place_cmp
place_total = then_total (on_total (λ (q : Place). q.0) nat_list_cmp_total) (on_total (λ (q : Place). q.1) nat_list_cmp_total)

pub place_exact : IsAntisymmetric place_cmp
place_exact = exact_pairs (slice_cmp nat_cmp) (slice_cmp nat_cmp) exact_bytes exact_bytes

equal_from : (r : Ordering) → is_eq r ≡ true → r ≡ Equal
equal_from Less e = absurd (true≢false (sym e))
equal_from Equal e = refl
equal_from Greater e = absurd (true≢false (sym e))

pub same_key : {K : Type 0} {R : K → K → Ordering} → IsAntisymmetric R → (q k : K) → eq_by_cmp R q k ≡ true → q ≡ k
same_key {R = R} exact q k e = exact q k (equal_from (R q k) e)

pub key_same : {K : Type 0} {R : K → K → Ordering} → IsTotalOrder R → (q k : K) → q ≡ k → eq_by_cmp R q k ≡ true
key_same {R = R} o q k e = subst (λ x. eq_by_cmp R q x ≡ true) e (ap is_eq (tied_itself o q))

module _ {K X : Type 0} {R : K → K → Ordering} (o : IsTotalOrder R) (exact : IsAntisymmetric R) where
  get-insert_option : (f : K → Option X) (m : FinMap R X) (k q : K) (x : Option X) (among : Bool) →
      get m q ≡ cond among (f q) None → f k ≡ x → get (insert_option m k x) q ≡ cond (eq_by_cmp R q k || among) (f q) None
  get-insert_option f m k q None among rest is =
      elim (eq_by_cmp R q k) as (λ b. eq_by_cmp R q k ≡ b → get m q ≡ cond (b || among) (f q) None) [
        | true ↦ λ e. let none : f q ≡ None = ap f (same_key exact q k e) ∙ is in
            rest ∙ (elim among as (λ c. cond c (f q) None ≡ f q) [ true ↦ refl | false ↦ sym none ])
        | false ↦ λ e. rest
      ] refl
  get-insert_option f m k q (Some v) among rest is =
      get-insert o m k v q ∙ (elim (eq_by_cmp R q k) as (λ b. eq_by_cmp R q k ≡ b → cond b (Some v) (get m q) ≡ cond (b || among) (f q) None) [
        | true ↦ λ e. sym (ap f (same_key exact q k e) ∙ is)
        | false ↦ λ e. rest
      ] refl)

  -- the map of f at some keys has what f gives at each of them, and nothing elsewhere
  pub get-map_on : (f : K → Option X) (qs : List K) (q : K) → get (map_on R f qs) q ≡ cond (list_any (eq_by_cmp R q) qs) (f q) None
  get-map_on f [] q = get-empty R q
  get-map_on f (k ∷ qs) q = get-insert_option f (map_on R f qs) k q (f k) (list_any (eq_by_cmp R q) qs) (get-map_on f qs q) refl

  -- where f gives nothing at other keys, the map has what f gives
  pub get-map_on_all : (f : K → Option X) (qs : List K) (q : K) → (list_any (eq_by_cmp R q) qs ≡ false → f q ≡ None) → get (map_on R f qs) q ≡ f q
  get-map_on_all f qs q none =
      get-map_on f qs q ∙ (elim (list_any (eq_by_cmp R q) qs) as (λ b. list_any (eq_by_cmp R q) qs ≡ b → cond b (f q) None ≡ f q) [
        | true ↦ λ e. refl
        | false ↦ λ e. sym (none e)
      ] refl)

  -- a key that the map does not have
  pub get_without : (m : FinMap R X) (q : K) → list_any (eq_by_cmp R q) (keys m) ≡ false → get m q ≡ None
  get_without m q e =
      elim (get m q) as (λ r. is_some r ≡ false → r ≡ None) [
        | None ↦ λ _. refl
        | Some x ↦ λ h. absurd (true≢false h)
      ] (contains_key-keys m q ∙ e)

pub in_map : {X Y : Type 0} (f : X → Y) (x : X) (S : List X) → IsIn x S → IsIn (f x) (map f S)
in_map f x [] h = absurd h
in_map f x (y ∷ S) (inl e) = inl (ap f e)
in_map f x (y ∷ S) (inr h) = inr (in_map f x S h)
