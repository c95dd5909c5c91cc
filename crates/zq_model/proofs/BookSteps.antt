-- Steps put one after the other: their image, whether each can come where it stands, and their stamps.

use Rattle.std.proofs.lemmas.Bool.Decides.{nat_tests}
use Rattle.std.proofs.Common.{arith}
use Rattle.std.proofs.lemmas.Bool.{and_parts, eqb-true}
use Rattle.std.specs.List.{list_all}
use Rattle.std.specs.Prelude.{List, [], nat_le, refl, true, ℕ, ◌&&◌, ◌+◌, ◌++◌, ◌==◌, ◌∷◌, ◌≡◌, ◌≤◌}
use Rattle.zq_model.specs.Books.{Step, are_rising, are_steps_over, image_step, is_step_over, stamp_of, steps_image}
use Rattle.zq_model.specs.Image.{Image}

pub steps_image-append : (xs ys : List Step) (a : Image) → steps_image (xs ++ ys) a ≡ steps_image ys (steps_image xs a)
steps_image-append [] ys a = refl
steps_image-append (x ∷ xs) ys a = steps_image-append xs ys (image_step x a)

pub are_steps_over-append : (K h : ℕ) (xs ys : List Step) (a : Image) →
    are_steps_over K h a xs ≡ true → are_steps_over K h (steps_image xs a) ys ≡ true → are_steps_over K h a (xs ++ ys) ≡ true
are_steps_over-append K h [] ys a p q = q
are_steps_over-append K h (x ∷ xs) ys a p q =
    let both : (is_step_over K h a x ≡ true) × (are_steps_over K h (image_step x a) xs ≡ true) = and_parts _ _ p in
    rw (both.0, are_steps_over-append K h xs ys (image_step x a) both.1 q) refl

-- stamps within a bound are within a greater one
pub are_rising-raised : (low high top : ℕ) (xs : List Step) → high ≤ top → are_rising low high xs ≡ true → are_rising low top xs ≡ true
are_rising-raised low high top [] le p = refl
are_rising-raised low high top (x ∷ xs) le p =
    let first : (nat_le low (stamp_of x) ≡ true) × ((nat_le (stamp_of x) high && are_rising (stamp_of x) high xs) ≡ true) = and_parts _ _ p in
    let rest : (nat_le (stamp_of x) high ≡ true) × (are_rising (stamp_of x) high xs ≡ true) = and_parts _ _ first.1 in
    let within : nat_le (stamp_of x) top ≡ true = grind (arith, nat_tests) in
    rw (first.0, within, are_rising-raised (stamp_of x) high top xs le rest.1) refl

-- a step with the greatest stamp may follow
pub are_rising-append : (low high : ℕ) (xs : List Step) (x : Step) → low ≤ high → stamp_of x ≡ high → are_rising low high xs ≡ true → are_rising low high (xs ++ x ∷ []) ≡ true
are_rising-append low high [] x le e p =
    let above : nat_le low (stamp_of x) ≡ true = grind (arith, nat_tests) in
    let within : nat_le (stamp_of x) high ≡ true = grind (arith, nat_tests) in
    rw (above, within) refl
are_rising-append low high (y ∷ xs) x le e p =
    let first : (nat_le low (stamp_of y) ≡ true) × ((nat_le (stamp_of y) high && are_rising (stamp_of y) high xs) ≡ true) = and_parts _ _ p in
    let rest : (nat_le (stamp_of y) high ≡ true) × (are_rising (stamp_of y) high xs ≡ true) = and_parts _ _ first.1 in
    let below : stamp_of y ≤ high = grind (arith, nat_tests) in
    rw (first.0, rest.0, are_rising-append (stamp_of y) high xs x below e rest.1) refl

-- steps of which the first ones can come, and the others behind them
pub are_steps_over-rest : (K h : ℕ) (xs ys : List Step) (a : Image) → are_steps_over K h a (xs ++ ys) ≡ true → are_steps_over K h (steps_image xs a) ys ≡ true
are_steps_over-rest K h [] ys a p = p
are_steps_over-rest K h (x ∷ xs) ys a p =
    let both : (is_step_over K h a x ≡ true) × (are_steps_over K h (image_step x a) (xs ++ ys) ≡ true) = and_parts _ _ p in
    are_steps_over-rest K h xs ys (image_step x a) both.1

-- stamps from a bound on are from a lower one on
pub are_rising-lowered : (low least high : ℕ) (xs : List Step) → least ≤ low → are_rising low high xs ≡ true → are_rising least high xs ≡ true
are_rising-lowered low least high [] le p = refl
are_rising-lowered low least high (x ∷ xs) le p =
    let first : (nat_le low (stamp_of x) ≡ true) × ((nat_le (stamp_of x) high && are_rising (stamp_of x) high xs) ≡ true) = and_parts _ _ p in
    let above : nat_le least (stamp_of x) ≡ true = grind (arith, nat_tests) in
    rw (above, first.1) refl

-- the stamps of the last ones rise too
pub are_rising-rest : (low high : ℕ) (xs ys : List Step) → are_rising low high (xs ++ ys) ≡ true → are_rising low high ys ≡ true
are_rising-rest low high [] ys p = p
are_rising-rest low high (x ∷ xs) ys p =
    let first : (nat_le low (stamp_of x) ≡ true) × ((nat_le (stamp_of x) high && are_rising (stamp_of x) high (xs ++ ys)) ≡ true) = and_parts _ _ p in
    let rest : (nat_le (stamp_of x) high ≡ true) × (are_rising (stamp_of x) high (xs ++ ys) ≡ true) = and_parts _ _ first.1 in
    let below : low ≤ stamp_of x = grind (arith, nat_tests) in
    are_rising-lowered (stamp_of x) low high ys below (are_rising-rest (stamp_of x) high xs ys rest.1)

-- stamps up to a bound, and then stamps above it
pub are_rising-joined : (low mid high : ℕ) (xs ys : List Step) → low ≤ mid + 1 → mid ≤ high → are_rising low mid xs ≡ true → are_rising (mid + 1) high ys ≡ true →
    are_rising low high (xs ++ ys) ≡ true
are_rising-joined low mid high [] ys start le p q = are_rising-lowered (mid + 1) low high ys start q
are_rising-joined low mid high (x ∷ xs) ys start le p q =
    let first : (nat_le low (stamp_of x) ≡ true) × ((nat_le (stamp_of x) mid && are_rising (stamp_of x) mid xs) ≡ true) = and_parts _ _ p in
    let rest : (nat_le (stamp_of x) mid ≡ true) × (are_rising (stamp_of x) mid xs ≡ true) = and_parts _ _ first.1 in
    let below : stamp_of x ≤ mid = grind (arith, nat_tests) in
    let within : nat_le (stamp_of x) high ≡ true = grind (arith, nat_tests) in
    rw (first.0, within, are_rising-joined (stamp_of x) mid high xs ys (omega arith) le rest.1 q) refl

-- steps of one stamp rise
pub are_rising-own : (low stamp : ℕ) (xs : List Step) → low ≤ stamp → list_all (λ s. stamp_of s == stamp) xs ≡ true → are_rising low stamp xs ≡ true
are_rising-own low stamp [] le p = refl
are_rising-own low stamp (x ∷ xs) le p =
    let both : ((stamp_of x == stamp) ≡ true) × (list_all (λ s. stamp_of s == stamp) xs ≡ true) = and_parts _ _ p in
    let same : stamp_of x ≡ stamp = eqb-true _ _ both.0 in
    let above : nat_le low (stamp_of x) ≡ true = grind (arith, nat_tests) in
    let within : nat_le (stamp_of x) stamp ≡ true = grind (arith, nat_tests) in
    rw (above, within) (are_rising-own (stamp_of x) stamp xs (omega arith) both.1)
