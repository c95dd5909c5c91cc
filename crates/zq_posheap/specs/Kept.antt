-- The bytes of a name.
use Rattle.std.specs.Prelude.{List, min, take, ℕ}
use Rattle.zq_posheap.specs.declared.name.Kept.{Kept}
use Rattle.zq_posheap.specs.declared.name.Kept.TheVariants.{Long, Short}

-- wherever they lie
abbrev pub bytes_of : Kept → List ℕ
bytes_of (Short len bytes) = take (min len 30) bytes
bytes_of (Long bytes) = bytes.items
