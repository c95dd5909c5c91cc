-- The key and the member of a record.
use Rattle.std.specs.Prelude.{List, drop, length, min, take, ℕ}
use Rattle.zq_journal.specs.declared.names.Kept.{Kept}
use Rattle.zq_journal.specs.declared.names.Kept.TheVariants.{Long, Short}

-- the bytes of both, one behind the other
abbrev pub bytes_of : Kept → List ℕ
bytes_of (Short key end bytes) = take (min end 37) bytes
bytes_of (Long key bytes) = bytes.items

-- where the key ends
abbrev pub key_end : Kept → ℕ
key_end (Short key end bytes) = min key (length (take (min end 37) bytes))
key_end (Long key bytes) = min key (length bytes.items)

abbrev pub names_of : Kept → List ℕ × List ℕ
names_of kept = (take (key_end kept) (bytes_of kept), drop (key_end kept) (bytes_of kept))
