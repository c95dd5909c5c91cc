-- What is left at a spot is what stands below it.

use Rattle.std.proofs.Common.{ap, arith, inl, inr, refl, subst, suc, sym, zero, ◌∙◌}
use Rattle.std.proofs.lemmas.Option.{none-some, same_Some}
use Rattle.std.specs.Prelude.{List, None, Option, Some, [], flat_map, map, slice_get, take, ℕ, ◌<◌, ◌∷◌, ◌≡◌, ◌⊎◌}
use Rattle.zq_model.proofs.Listing.{in_flat_map, in_flat_map_from}
use Rattle.zq_model.proofs.Maps.{in_map}
use Rattle.zq_model.proofs.Membership.{in_left, in_right, in_union}
use Rattle.zq_model.specs.Image.{Place}
use Rattle.zq_model.specs.Sets.{IsIn}
use Rattle.zq_shard.specs.Standing.{Order, StandsAt, firsts_of, left, of_key}
use Rattle.zq_shard.specs.declared.spot.Spot.{Spot}

-- ---- lists by their indices

pub taken_at : {X : Type 0} (xs : List X) (n i : ℕ) (x : X) → slice_get xs i ≡ Some x → i < n → IsIn x (take n xs)
taken_at [] n i x at within = absurd (none-some x at)
taken_at (y ∷ xs) zero i x at within = absurd (omega (arith, within))
taken_at (y ∷ xs) (suc n) zero x at within = inl (same_Some y x at)
taken_at (y ∷ xs) (suc n) (suc i) x at within = inr (taken_at xs n i x at (omega (arith, within)))

pub at_taken : {X : Type 0} (xs : List X) (n : ℕ) (x : X) → IsIn x (take n xs) → (i : ℕ) × ((i < n) × (slice_get xs i ≡ Some x))
at_taken [] zero x here = absurd here
at_taken [] (suc n) x here = absurd here
at_taken (y ∷ xs) zero x here = absurd here
at_taken (y ∷ xs) (suc n) x (inl is) = (0, (omega arith, ap Some is))
at_taken (y ∷ xs) (suc n) x (inr later) = let at = at_taken xs n x later in (suc at.0, (omega (arith, at.1.0), at.1.1))

pub in_list : {X : Type 0} (xs : List X) (i : ℕ) (x : X) → slice_get xs i ≡ Some x → IsIn x xs
in_list [] i x at = absurd (none-some x at)
in_list (y ∷ xs) zero x at = inl (same_Some y x at)
in_list (y ∷ xs) (suc i) x at = inr (in_list xs i x at)

pub list_at : {X : Type 0} (xs : List X) (x : X) → IsIn x xs → (i : ℕ) × (slice_get xs i ≡ Some x)
list_at [] x here = absurd here
list_at (y ∷ xs) x (inl is) = (0, ap Some is)
list_at (y ∷ xs) x (inr later) = let at = list_at xs x later in (suc at.0, at.1)

pub from_map : {X Y : Type 0} (f : X → Y) (xs : List X) (y : Y) → IsIn y (map f xs) → (x : X) × (IsIn x xs × (f x ≡ y))
from_map f [] y here = absurd here
from_map f (x ∷ xs) y (inl is) = (x, (inl refl, is))
from_map f (x ∷ xs) y (inr later) = let from = from_map f xs y later in (from.0, (inr from.1.0, from.1.1))

-- ---- members of a key

-- a member of a key is one of its names
pub of_its_key : (e : List ℕ × List (List ℕ)) (q : Place) → IsIn q (of_key e) → (e.0 ≡ q.0) × IsIn q.1 e.1
of_its_key e q here =
    let from = from_map (λ member. (e.0, member)) e.1 q here in
    (ap (λ (p : Place). p.0) from.1.1, subst (λ m. IsIn m e.1) (ap (λ (p : Place). p.1) from.1.1) from.1.0)

pub named_in : (e : List ℕ × List (List ℕ)) (q : Place) → e.0 ≡ q.0 → IsIn q.1 e.1 → IsIn q (of_key e)
named_in e q key here = subst (λ k. IsIn (k, q.1) (of_key e)) key (in_map (λ member. (e.0, member)) q.1 e.1 here)

-- ---- what is left

-- the numbers come below the spot
abbrev pub IsBelow : ℕ → ℕ → Spot → Type 0
IsBelow key member spot = (key < spot.key) ⊎ ((key ≡ spot.key) × (member < spot.member))

pub standing_left : (order : Order) (q : Place) (key member : ℕ) (spot : Spot) → StandsAt order q key member → IsBelow key member spot → IsIn q (left order spot)
standing_left order q key member spot stands (inl below) =
    in_left q (flat_map of_key (take spot.key order)) (firsts_of spot.member (slice_get order spot.key))
    (in_flat_map of_key q (q.0, stands.names) (take spot.key order) (taken_at order spot.key key (q.0, stands.names) stands.its_key below)
    (named_in (q.0, stands.names) q refl (in_list stands.names member q.1 stands.its_member)))
standing_left order q key member spot stands (inr same) =
    in_right q (flat_map of_key (take spot.key order)) (firsts_of spot.member (slice_get order spot.key))
    (subst (λ o. IsIn q (firsts_of spot.member o)) (sym (ap (slice_get order) (sym same.0) ∙ stands.its_key))
    (named_in (q.0, take spot.member stands.names) q refl (taken_at stands.names spot.member member q.1 stands.its_member same.1)))

-- where a member that is left stands
pub record IsLeftAt (order : Order) (q : Place) (spot : Spot) : Type 0 where
  pub key : ℕ
  pub member : ℕ
  pub stands : StandsAt order q key member
  pub below : IsBelow key member spot

pub left_standing : (order : Order) (q : Place) (spot : Spot) → IsIn q (left order spot) → IsLeftAt order q spot
left_standing order q spot here =
    elim (in_union q (flat_map of_key (take spot.key order)) (firsts_of spot.member (slice_get order spot.key)) here) [
      | inl before ↦
          let from = in_flat_map_from of_key q (take spot.key order) before in
          let at = at_taken order spot.key from.0 from.1 in
          let its = of_its_key from.0 q from.2 in
          let name = list_at from.0.1 q.1 its.1 in
          record {
            key = at.0;
            member = name.0;
            stands = record { names = from.0.1; its_key = at.1.1 ∙ ap (λ k. Some (k, from.0.1)) its.0; its_member = name.1 };
            below = inl at.1.0;
          }
      | inr of_it ↦ of_one (slice_get order spot.key) refl of_it
    ]
  where
    of_one : (o : Option (List ℕ × List (List ℕ))) → slice_get order spot.key ≡ o → IsIn q (firsts_of spot.member o) → IsLeftAt order q spot
    of_one None is there = absurd there
    of_one (Some e) is there =
        let its = of_its_key (e.0, take spot.member e.1) q there in
        let name = at_taken e.1 spot.member q.1 its.1 in
        record {
          key = spot.key;
          member = name.0;
          stands = record { names = e.1; its_key = is ∙ ap (λ k. Some (k, e.1)) its.0; its_member = name.1.1 };
          below = inr (refl, name.1.0);
        }
