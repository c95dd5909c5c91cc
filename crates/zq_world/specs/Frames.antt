-- What passes from one site to another.

use Rattle.std.specs.Prelude.{List, ℕ}
use Rattle.zq_dots.specs.Placed.{Placed}
use Rattle.zq_model.specs.Image.{image_of}
use Rattle.zq_model.specs.Operation.{Operation}
use Rattle.zq_model.specs.Rule.{Rule}
use Rattle.zq_shard.specs.Shard.{HeapImage}

-- the operation of a site of K heaps
abbrev pub placed : ℕ → Operation → Placed
placed K o = record { heaps = K; operation = o }

-- the image of a set in a heap of K, by the rule
abbrev pub heap_at : Rule → ℕ → List Operation → ℕ → HeapImage
heap_at rule K S heap = record { heap = heap; heaps = K; rule = rule; image = image_of S heap }
