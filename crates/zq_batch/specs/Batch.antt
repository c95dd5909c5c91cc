-- Which operations have a spelling together.

use Rattle.std.specs.Prelude.{All, List, [], length, ℕ, ◌≡◌, ◌≤◌}
use Rattle.zq_batch.specs.Before.{AreNext}
use Rattle.zq_dots.specs.Placed.{Placed}

-- the most operations of a batch
abbrev pub MOST_OPS : ℕ
MOST_OPS = 4096

-- it is of this heap, among so many
abbrev pub IsOfHeap : ℕ → ℕ → Placed → Type 0
IsOfHeap heaps heap o = (o.heaps ≡ heaps) × (o.operation.heap ≡ heap)

-- between 1 and MOST_OPS operations of one heap, each the next of its site
pub record AreBatch (heaps heap : ℕ) (ops : List Placed) : Type 0 where
  pub some : 1 ≤ length ops
  pub few : length ops ≤ MOST_OPS
  pub of_heap : All (IsOfHeap heaps heap) ops
  pub next : AreNext [] ops
