-- A tail of operations over a set: what a peer takes of it.

use Rattle.std.specs.Prelude.{List, [], filter, if◌then◌else◌, length, not, ℕ, ◌∷◌, ◌≡◌}
use Rattle.zq_model.specs.Image.{Image, image_after}
use Rattle.zq_model.specs.Operation.{Operation, has}
use Rattle.zq_model.specs.Sets.{IsNew, New, taken_of}

-- the set after a tail, its oldest operation first
abbrev pub tail_set : List Operation → List Operation → List Operation
tail_set S [] = S
tail_set S (o ∷ tail) = tail_set (o ∷ S) tail

abbrev pub image_after_all : List Operation → Image → Image
image_after_all [] a = a
image_after_all (o ∷ tail) a = image_after_all tail (image_after o a)

-- what of the tail the vector lacks
abbrev pub lacking : List ℕ → List Operation → List Operation
lacking v tail = filter (λ o. not (has v o.site o.n)) tail

-- how many operations of the tail there are from the oldest on that the vector lacks; it may have
-- some of them
abbrev pub lacking_from : List ℕ → List Operation → ℕ
lacking_from v [] = 0
lacking_from v (o ∷ tail) =
    if has v o.site o.n then lacking_from v tail else length (o ∷ tail)

-- each operation of the tail was new where it came
abbrev pub IsTail : ℕ → List Operation → List Operation → Type 0
IsTail h S [] = Unit {0}
IsTail h S (o ∷ tail) = IsNew S o × (o.heap ≡ h) × IsTail h (o ∷ S) tail

-- each operation of the list is new by the image's vector where it comes
abbrev pub AreNew : List Operation → Image → Type 0
AreNew [] a = Unit {0}
AreNew (o ∷ tail) a = (taken_of a.vector o ≡ New) × AreNew tail (image_after o a)
