use Rattle.std.proofs.Common.{length, map, take, ◌<◌, ◌≡◌, ◌≤◌, ◌⊎◌}
use Rattle.std.specs.List.{sum}
use Rattle.std.specs.Prelude.{vec_len}
use Rattle.zq_shard.specs.Standing.{IsEnd}
use Rattle.zq_shard.specs.Walk.{IsPiece}
use Rattle.zq_stage.specs.Portion.{lent_weight}
use Rattle.zq_stage.proofs.portion.walk_within.Given as goal

abbrev pub invariant-loop-fits : goal.invariant-loop-fits
invariant-loop-fits l = record {
  piece : IsPiece l.shard.image l.fn.spot l.piece.rows.items l.piece.next;
  few : length l.piece.rows.items ≤ l.fn.limits.rows;
  within : l.fits ≤ length l.piece.rows.items;
  light : (l.fits ≤ 1) ⊎ (sum (map lent_weight (take l.fits l.piece.rows.items)) ≤ l.fn.limits.bytes);
  some : l.fits ≡ 0 → length l.piece.rows.items ≡ 0;
  end : 0 < l.fn.limits.rows → length l.piece.rows.items ≡ 0 → IsEnd l.piece.next;
}

abbrev pub decreases-loop-fits : goal.decreases-loop-fits
decreases-loop-fits l = vec_len l.piece.rows
