-- What a set has on keys that are watched.

use Rattle.std.specs.Prelude.{Bool, List, [], true, ℕ, ◌∷◌, ◌≡◌}
use Rattle.zq_model.specs.Operation.{Operation, has}
use Rattle.zq_model.specs.Sets.{IsIn, covers, vector_of}

-- which keys are watched
abbrev pub Keys : Type 0
Keys = List ℕ → Bool

-- the set has no operation of the heap, on one of the keys, that the vector lacks
abbrev pub IsUnchanged : List Operation → ℕ → List ℕ → Keys → Type 0
IsUnchanged S heap vector keys = (o : Operation) → IsIn o S → o.heap ≡ heap →
    keys o.key ≡ true → has vector o.site o.n ≡ true

-- so it is of each of these heaps, which have these vectors
abbrev pub AreUnchanged : List Operation → List ℕ → List (List ℕ) → Keys → Type 0
AreUnchanged S [] vectors keys = Unit {0}
AreUnchanged S (heap ∷ heaps) [] keys = ⊥
AreUnchanged S (heap ∷ heaps) (vector ∷ vectors) keys = IsUnchanged S heap vector keys
    × AreUnchanged S heaps vectors keys

-- the set has in each of these heaps what its vector has
abbrev pub HasAllOf : List Operation → List ℕ → List (List ℕ) → Type 0
HasAllOf T [] vectors = Unit {0}
HasAllOf T (heap ∷ heaps) [] = ⊥
HasAllOf T (heap ∷ heaps) (vector ∷ vectors) = (covers (vector_of T heap) vector ≡ true)
    × HasAllOf T heaps vectors
