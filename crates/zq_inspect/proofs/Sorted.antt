-- A list is sorted where what its elements stand for is.

use Rattle.std.proofs.Common.{arith, ◌∙◌}
use Rattle.std.proofs.lemmas.List.{get_or-map, length-map}
use Rattle.std.specs.List.Sorted.{IsSortedBy}
use Rattle.std.specs.Prelude.{Bool, List, [], length, map, ◌+◌, ◌<◌, ◌∷◌}

pub sorted_map : {X Y : Type 0} (f : X → Y) (lt : Y → Y → Bool) (xs : List X) →
    IsSortedBy (λ x y. lt (f x) (f y)) xs → IsSortedBy lt (map f xs)
sorted_map f lt [] up k d low high = absurd (omega (arith, high))
sorted_map f lt (x ∷ xs) up k d low high =
    let within : k + 1 < length (x ∷ xs) = omega (arith, length-map (x ∷ xs) f, high) in
    let here : k < length (x ∷ xs) = omega (arith, within) in
    (λ i. lt (get_or-map f (x ∷ xs) (k + 1) x d within i) (get_or-map f (x ∷ xs) k x d here i))
    ∙ up k x low within
