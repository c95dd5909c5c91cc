-- The numbers of a drill.

use Rattle.std.specs.Prelude.{ℕ}

-- how many sites there are
abbrev pub site_count : ℕ
site_count = 3

-- how many heaps a site has
abbrev pub heap_count : ℕ
heap_count = 4
