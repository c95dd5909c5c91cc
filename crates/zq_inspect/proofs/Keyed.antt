-- The keys of rows are those of what is lent of them.

use Rattle.std.proofs.Common.{List, [], ap, map, refl, ◌∷◌, ◌≡◌}
use Rattle.zq_inspect.specs.Keys.{key_of}
use Rattle.zq_model.specs.Rows.{Row}
use Rattle.zq_shard.specs.Listed.{lent_row}
use Rattle.zq_shard.specs.declared.row.RowRef.{RowRef}

pub keys_lent : (rows : List RowRef) →
    map key_of rows ≡ map (λ (row : Row). row.key) (map lent_row rows)
keys_lent [] = refl
keys_lent (row ∷ rows) = ap (λ keys. row.key.now ∷ keys) (keys_lent rows)
