-- The first of a map's pairs.
use Rattle.std.specs.Prelude.{Some, ◌≡◌, ◌≢◌}
use Rattle.std.specs.FinMap.{get}
use Rattle.std.specs.declared.cmp.Ordering.TheVariants.{Less}
use Rattle.zq_posheap.specs.Members.{Scores}
use Rattle.zq_posheap.specs.Order.{Scored, scored_cmp}

-- the map has the pair, and no other of its pairs goes before it
pub record IsFirst (scores : Scores) (first : Scored) : Type 0 where
  pub there : get scores first.1 ≡ Some first.0
  pub before : (pair : Scored) → get scores pair.1 ≡ Some pair.0 → pair ≢ first →
      scored_cmp first pair ≡ Less
