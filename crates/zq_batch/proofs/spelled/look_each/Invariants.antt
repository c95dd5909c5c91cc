use Rattle.std.proofs.Common.{length, List, ◌≡◌}
use Rattle.std.specs.List.{All, flat_map}
use Rattle.zq_batch.proofs.Looked.{AreLookedTo}
use Rattle.zq_delta.specs.Spelling.{op_spelling}
use Rattle.zq_delta.specs.declared.version.Version.TheVariants.{Two}
use Rattle.zq_dots.specs.Placed.{IsRanged, Placed}
use Rattle.zq_batch.proofs.spelled.look_each.Given as goal

abbrev pub invariant-loop-number : goal.invariant-loop-number
invariant-loop-number l = record {
  size : length l.views.items ≡ l._number;
  looked : (ops : List Placed) → All IsRanged ops → length ops ≡ l.count → l.spelled ≡ flat_map (op_spelling Two) ops → AreLookedTo l.views.items ops l.rest;
}
