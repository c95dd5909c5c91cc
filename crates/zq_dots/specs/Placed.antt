-- An operation of a site with some number of heaps.

use Rattle.std.specs.Prelude.{List, length, slice_index, ℕ, ◌+◌, ◌<◌, ◌≡◌, ◌≤◌}
pub use Rattle.zq_model.specs.Operation.{LONGEST}
use Rattle.zq_model.specs.Operation.{IsAct, Operation}
use Rattle.zq_model.specs.Sets.{IsCounters, IsHeaps, LAST, SITES}

-- an operation, and the number of heaps of the site that made it
pub record Placed : Type 0 where
  pub heaps : ℕ
  pub operation : Operation

-- its numbers are in range, and its counter is the next of its site after those that it has seen
pub record IsRanged (p : Placed) : Type 0 where
  pub heaps : IsHeaps p.heaps
  pub heap : p.operation.heap < p.heaps
  pub site : p.operation.site < SITES
  pub seen : IsCounters p.operation.seen
  pub next : p.operation.n ≡ slice_index p.operation.seen p.operation.site + 1
  pub bounded : p.operation.n ≤ LAST
  pub key : length p.operation.key ≤ LONGEST
  pub member : length p.operation.member ≤ LONGEST
  pub act : IsAct p.operation.act

-- the same operation of another key and another member
abbrev pub renamed : Placed → List ℕ → List ℕ → Placed
renamed p key member = record {
  heaps = p.heaps;
  operation = record {
    heap = p.operation.heap;
    site = p.operation.site;
    n = p.operation.n;
    seen = p.operation.seen;
    key = key;
    member = member;
    act = p.operation.act;
  };
}
