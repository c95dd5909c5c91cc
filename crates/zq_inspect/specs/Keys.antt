-- How many keys rows are of, which stand by key.

use Rattle.std.specs.Cmp.Lexicographic.{pointwise}
use Rattle.std.specs.Prelude.{Bool, List, None, Option, Some, [], false, if◌then◌else◌, nat_eq, suc, ℕ, ◌∷◌}
use Rattle.zq_shard.specs.declared.row.RowRef.{RowRef}

abbrev pub key_of : RowRef → List ℕ
key_of row = row.key.now

-- the key is the one before
abbrev pub is_key : Option (List ℕ) → List ℕ → Bool
is_key None key = false
is_key (Some last) key = pointwise nat_eq last key

-- each key that differs from the one before is one more
abbrev pub keys_from : Option (List ℕ) → List (List ℕ) → ℕ
keys_from last [] = 0
keys_from last (key ∷ keys) =
    if is_key last key then keys_from (Some key) keys else suc (keys_from (Some key) keys)
