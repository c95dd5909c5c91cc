-- The operations that a site gathers: what it makes and takes, and what the images cover that it
-- merges or takes over.

use Rattle.std.specs.Prelude.{List, [], filter, ℕ, ◌&&◌, ◌++◌, ◌==◌, ◌∷◌, ◌≡◌}
use Rattle.zq_model.specs.Books.{Book, HandedOn, Merged, Recorded, Step, TookOver, operation_of, operations_of}
use Rattle.zq_model.specs.Image.{Image, image_of}
use Rattle.zq_model.specs.Operation.{Operation, has}
use Rattle.zq_model.specs.Rule.{Rule}
use Rattle.zq_model.specs.Sets.{IsClosed, IsIn}
use Rattle.zq_model.specs.Tail.{IsTail, tail_set}
use Rattle.zq_notes.specs.Notes.{Books, Note}

-- those of a world that an image of the heap h covers
abbrev pub covered_by : List Operation → ℕ → Image → List Operation
covered_by W h a = filter (λ o. (o.heap == h) && has a.vector o.site o.n) W

-- what a step in the heap h brings
abbrev pub brought : List Operation → ℕ → Step → List Operation
brought W h (Recorded r) = operation_of r.change ∷ []
brought W h (Merged stamp other) = covered_by W h other
brought W h (HandedOn stamp handed) = []
brought W h (TookOver stamp other) = covered_by W h other

-- the set after steps in the heap h, the oldest first
abbrev pub gathered_in : List Operation → ℕ → List Step → List Operation → List Operation
gathered_in W h [] S = S
gathered_in W h (s ∷ steps) S = gathered_in W h steps (brought W h s ++ S)

-- after steps in several heaps
abbrev pub gathered_by : List Operation → List ℕ → List (List Step) → List Operation →
    List Operation
gathered_by W [] steps S = S
gathered_by W (h ∷ heaps) [] S = S
gathered_by W (h ∷ heaps) (ss ∷ steps) S = gathered_by W heaps steps (gathered_in W h ss S)

-- after calls
abbrev pub gathered : List Operation → List Note → List Operation → List Operation
gathered W [] S = S
gathered W (n ∷ notes) S = gathered W notes (gathered_by W n.heaps n.steps S)

-- what the step records is of the world, and so is what it merges or takes over: the image of a
-- closed set of it
abbrev pub IsOf : List Operation → ℕ → Step → Type 0
IsOf W h (Recorded r) = IsIn (operation_of r.change) W
IsOf W h (Merged stamp other) =
    (U : List Operation) × IsClosed U × ((o : Operation) → IsIn o U → IsIn o W)
    × (other ≡ image_of U h)
IsOf W h (HandedOn stamp handed) = Unit {0}
IsOf W h (TookOver stamp other) =
    (U : List Operation) × IsClosed U × ((o : Operation) → IsIn o U → IsIn o W)
    × (other ≡ image_of U h)

abbrev pub AreOf : List Operation → ℕ → List Step → Type 0
AreOf W h [] = Unit {0}
AreOf W h (s ∷ steps) = IsOf W h s × AreOf W h steps

abbrev pub AreOfIn : List Operation → List ℕ → List (List Step) → Type 0
AreOfIn W [] steps = Unit {0}
AreOfIn W (h ∷ heaps) [] = Unit {0}
AreOfIn W (h ∷ heaps) (ss ∷ steps) = AreOf W h ss × AreOfIn W heaps steps

-- what the calls make, take and merge is of one world
abbrev pub AreOfWorld : List Operation → List Note → Type 0
AreOfWorld W [] = Unit {0}
AreOfWorld W (n ∷ notes) = AreOfIn W n.heaps n.steps × AreOfWorld W notes

-- the book's base is the image of a closed part of the set, and its tail has, in their order, the
-- operations that the set has in the heap h beyond that part
pub record HasTailOf (S : List Operation) (h : ℕ) (b : Book) : Type 0 where
  pub start : List Operation
  pub within : (o : Operation) → IsIn o start → IsIn o S
  pub closed : IsClosed start
  pub base : b.base ≡ image_of start h
  pub tailed : IsTail h start (operations_of b.tail)
  pub told : (o : Operation) → IsIn o (operations_of b.tail) → IsIn o S
  pub all : (o : Operation) → IsIn o S → o.heap ≡ h →
      IsIn o (tail_set start (operations_of b.tail))

-- the book is that of the heap h, of K, and of this rule, and has the image of the set there
pub record HasImageOf (rule : Rule) (K : ℕ) (S : List Operation) (h : ℕ) (b : Book) : Type 0 where
  pub heap : b.heap ≡ h
  pub heaps : b.heaps ≡ K
  pub ruled : b.rule ≡ rule
  pub state : b.state ≡ image_of S h
  pub tail : HasTailOf S h b

-- each heap has the image of the set, which is a closed set of the world
pub record AreImagesOf (rule : Rule) (K : ℕ) (W S : List Operation) (books : Books) : Type 0 where
  pub within : (o : Operation) → IsIn o S → IsIn o W
  pub closed : IsClosed S
  pub each : (h : ℕ) → HasImageOf rule K S h (books h)
