-- An image as a vector and rows: for each member of a key that stands, its additions.

use Rattle.std.specs.FinMap.{entries, from_entries, get}
use Rattle.std.specs.Prelude.{List, None, Some, [], false, length, map, ℕ, ◌+◌, ◌∷◌, ◌≡◌, ◌≢◌}
use Rattle.std.specs.declared.cmp.Ordering.TheVariants.{Less}
use Rattle.zq_model.specs.Entry.{Addition}
use Rattle.zq_model.specs.Image.{Entry, Image, Members, Place, is_bare, place_cmp}
use Rattle.zq_model.specs.Sets.{IsIn, SITES, by_site}
use Rattle.zq_model.specs.Sparse.{AreBySite, found}

-- an addition and its site
abbrev pub OfSite : Type 0
OfSite = ℕ × Addition

-- a member of a key with its additions by rising site
pub record Row : Type 0 where
  pub key : List ℕ
  pub member : List ℕ
  pub additions : List OfSite

abbrev pub place_in : Row → Place
place_in row = (row.key, row.member)

-- ---- the rows of an image

-- the additions of an entry whose first place is the site s's
abbrev pub additions_from : ℕ → Entry → List OfSite
additions_from s [] = []
additions_from s (None ∷ entry) = additions_from (s + 1) entry
additions_from s (Some a ∷ entry) = (s, a) ∷ additions_from (s + 1) entry

abbrev pub row_of : Place × Entry → Row
row_of e = record { key = e.0.0; member = e.0.1; additions = additions_from 0 e.1 }

-- a row for each member, in the order of keys and members
abbrev pub rows_of : Image → List Row
rows_of a = map row_of (entries a.members)

-- ---- the image of rows

-- a place for each site
abbrev pub entry_with : List OfSite → Entry
entry_with additions = by_site (λ s. found s additions)

abbrev pub pair_of : Row → Place × Entry
pair_of row = (place_in row, entry_with row.additions)

abbrev pub image_of_rows : List ℕ → List Row → Image
image_of_rows vector rows = record { vector = vector; members = from_entries (map pair_of rows) }

-- ---- which images and which rows

-- each entry has a place for each site, and an addition
abbrev pub AreEntries : Members → Type 0
AreEntries members = (k m : List ℕ) (e : Entry) → get members (k, m) ≡ Some e → (length e ≡ SITES)
    × (is_bare e ≡ false)

-- each row's key and member are below those of all that follow it
abbrev pub AreInOrder : List Row → Type 0
AreInOrder [] = Unit {0}
AreInOrder (row ∷ rows) = ((later : Row) → IsIn later rows → place_cmp (place_in row) (place_in later) ≡ Less) × AreInOrder rows

-- it has an addition, and its sites rise
pub record IsRow (row : Row) : Type 0 where
  pub some : row.additions ≢ []
  pub by_site : AreBySite 0 SITES row.additions

pub record AreRows (rows : List Row) : Type 0 where
  pub each : (row : Row) → IsIn row rows → IsRow row
  pub in_order : AreInOrder rows
