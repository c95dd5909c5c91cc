use Rattle.zq_wal.proofs.Images.{TornTo}
use Rattle.zq_wal.proofs.image.Image.torn.Given as goal

abbrev pub invariant-loop-at : goal.invariant-loop-at
invariant-loop-at l = TornTo l.self l.at l.left.items
