-- The frame of some operations.

use Rattle.std.proofs.Common.{List, [], ap, length, map, refl, ◌++◌, ◌∙◌, ◌∷◌, ◌≡◌, sym}
use Rattle.std.proofs.lemmas.List.{length-map}
use Rattle.std.specs.Int.{to_be_bytes, w32}
use Rattle.std.specs.List.{flat_map}
use Rattle.zq_backlog.specs.Written.{spelling}
use Rattle.zq_dots.specs.Placed.{Placed}
use Rattle.zq_links.specs.Frame.{OfOps}
use Rattle.zq_links.specs.Spelling.{frame_spelling, newest, newest_op, op_bytes, ops_bytes}

each_is : (ops : List Placed) → flat_map spelling ops ≡ flat_map op_bytes (map newest_op ops)
unfolding spelling
each_is [] = refl
each_is (o ∷ ops) = ap (λ bytes. op_bytes (newest_op o) ++ bytes) (each_is ops)

-- the kind, their number, and each
pub frame_is : (ops : List Placed) → 2 ∷ (to_be_bytes w32 (length ops) ++ flat_map spelling ops) ≡ frame_spelling (newest (OfOps ops))
unfolding ops_bytes
frame_is ops =
    ap (λ n. 2 ∷ (to_be_bytes w32 n ++ flat_map spelling ops)) (sym (length-map ops newest_op))
    ∙ ap (λ bytes. 2 ∷ (to_be_bytes w32 (length (map newest_op ops)) ++ bytes)) (each_is ops)
