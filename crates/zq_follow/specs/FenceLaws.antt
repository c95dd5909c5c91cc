-- Laws of how a site finds out that another run used its number.

use Rattle.std.specs.Prelude.{List, slice_index, ℕ, ◌<◌, ◌≡◌}
use Rattle.zq_model.specs.Operation.{Operation}
use Rattle.zq_model.specs.Sets.{IsIn, IsVector}

-- of the operations of a world the site has all of the heap that have its number: no other run
-- made one
abbrev pub HasAllOfItsOwn : List Operation → List Operation → ℕ → ℕ → Type 0
HasAllOfItsOwn world mine heap own = (o : Operation) → IsIn o world → o.heap ≡ heap →
    o.site ≡ own → IsIn o mine

-- A peer has operations of the world alone. So its vector counts no more of the site's than the
-- site's own.
abbrev pub VectorsFenceNobody : Type 0
VectorsFenceNobody = (world mine theirs : List Operation) (heap own : ℕ) (v u : List ℕ) →
    HasAllOfItsOwn world mine heap own → ((o : Operation) → IsIn o theirs → IsIn o world) →
    IsVector v mine heap → IsVector u theirs heap → ¬ (slice_index v own < slice_index u own)

-- Nor does an operation of the world that a peer hands on have a greater number.
abbrev pub OperationsFenceNobody : Type 0
OperationsFenceNobody = (world mine : List Operation) (heap own : ℕ) (v : List ℕ) (o : Operation) →
    HasAllOfItsOwn world mine heap own → IsIn o world → o.heap ≡ heap → o.site ≡ own →
    IsVector v mine heap → ¬ (slice_index v own < o.n)
