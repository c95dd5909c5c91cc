-- How large a heap is.

use Rattle.std.specs.Prelude.{min, ℕ, ◌+◌, ◌-◌, ◌^◌}
use Rattle.zq_site.specs.declared.heap_size.HeapSize.{HeapSize}

-- two numbers together, or the last one of 64 bits
abbrev pub both : ℕ → ℕ → ℕ
both one other = min (one + other) (2 ^ 64 - 1)

abbrev pub none : HeapSize
none = record { members = 0; keys = 0; bytes = 0 }

-- one key more, whose name has so many bytes
abbrev pub with_key : ℕ → HeapSize → HeapSize
with_key bytes size = record size { keys = both size.keys 1; bytes = both size.bytes bytes }

-- one member more, whose name has so many bytes
abbrev pub with_member : ℕ → HeapSize → HeapSize
with_member bytes size =
    record size { members = both size.members 1; bytes = both size.bytes bytes }
