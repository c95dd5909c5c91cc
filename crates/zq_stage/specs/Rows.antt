-- Rows that take the place of what their members had.

use Rattle.std.specs.List.{list_any}
use Rattle.std.specs.Ordering.{eq_by_cmp}
use Rattle.std.specs.Prelude.{Bool, List, [], ℕ, ◌∷◌}
use Rattle.zq_model.specs.Entry.{without}
use Rattle.zq_model.specs.Image.{Entry, Image, Place, addition_at, place_cmp}
use Rattle.zq_model.specs.Rows.{Row, entry_with, place_in}
use Rattle.zq_model.specs.Sets.{by_site}
use Rattle.zq_shard.specs.Shard.{HeapImage, with_entry}

-- whether one of the rows is of this member
abbrev pub has_row : List Row → Place → Bool
has_row rows q = list_any (λ row. eq_by_cmp place_cmp q (place_in row)) rows

-- the image with these rows, each in place of what its member had
abbrev pub with_rows : List Row → Image → Image
with_rows [] a = a
with_rows (row ∷ rows) a = with_rows rows (with_entry (place_in row) (entry_with row.additions) a)

-- the heap with another image
abbrev pub with_image : HeapImage → Image → HeapImage
with_image s image = record s { image = image }

-- those of an entry's additions whose dots the vector has not
abbrev pub newer_than : List ℕ → Entry → Entry
newer_than v entry = by_site (λ s. without v s (addition_at entry s))
