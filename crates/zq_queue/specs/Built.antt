-- A queue that is built from the members of another, one after another.

use Rattle.std.specs.FinMap.{get}
use Rattle.std.specs.Ordering.{eq_by_cmp}
use Rattle.std.specs.Prelude.{Bool, List, None, Option, Some, [], cond, false, is_some, not, ℕ, ◌&&◌, ◌||◌, ◌∷◌, ◌≡◌, ◌≢◌}
use Rattle.zq_model.specs.Image.{Entry}
use Rattle.zq_model.specs.Sets.{IsIn}
use Rattle.zq_posheap.specs.Listing.{Row}
use Rattle.zq_queue.specs.Entries.{Entries, bytes_cmp, entry_joined}

-- whether a member is one of the rows
abbrev pub among : List ℕ → List (Entry × List ℕ) → Bool
among q [] = false
among q (row ∷ rows) = eq_by_cmp bytes_cmp q row.1 || among q rows

-- a row's entry and its member
abbrev pub row_pair : Row Entry → Entry × List ℕ
row_pair row = (row.0.1, row.1)

-- no two rows are of one member
abbrev pub AreApart : List (Entry × List ℕ) → Type 0
AreApart [] = Unit {0}
AreApart (row ∷ rows) = ((other : Entry × List ℕ) → IsIn other rows → other.1 ≢ row.1)
    × AreApart rows

-- of the wanted members, built has what f gives at those that are not left, and nothing at those
-- that are; of the others it has what f gives
pub record IsBuilt (held : Entries) (wanted : List ℕ → Bool) (f : List ℕ →
    Option Entry) (left : List (Entry × List ℕ)) (built : Entries) : Type 0 where
  pub there : (row : Entry × List ℕ) → IsIn row left → get held row.1 ≡ Some row.0
  pub apart : AreApart left
  pub has : (q : List ℕ) → get built q ≡ cond (wanted q && among q left) None (f q)

-- the joins at each member of the first side
abbrev pub of_first : Entries → List ℕ → List ℕ → Entries → List ℕ → Option Entry
of_first held u v other q = cond (is_some (get held q)) (entry_joined u v held other q) None

-- the members that the first side has not
abbrev pub only_second : Entries → List ℕ → Bool
only_second first q = not (is_some (get first q))

-- the entries have what is held of each member that is not left
pub record AreCompared (held : Entries) (left : List (Entry × List ℕ))
    (entries : Entries) : Type 0 where
  pub there : (row : Entry × List ℕ) → IsIn row left → get held row.1 ≡ Some row.0
  pub same : (q : List ℕ) (e : Entry) → get held q ≡ Some e → among q left ≡ false →
      get entries q ≡ Some e
