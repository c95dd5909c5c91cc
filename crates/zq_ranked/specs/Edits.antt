-- What it is to put a pair in or to take one out.
use Rattle.std.specs.Prelude.{Bool, Contains, IsTrue, List, if◌then◌else◌, insert, remove, ◌≡◌, ◌↔◌}
use Rattle.zq_ranked.specs.Order.{Scored, rank_of}

-- a pair stands at its rank where it was not there, and was added just then
pub record IsPut (t : Scored) (old new : List Scored) (added : Bool) : Type 0 where
  pub put : new ≡ (if added then insert old (rank_of t old) t else old)
  pub absent : IsTrue added ↔ (Contains old t → ⊥)

-- a pair is no more at its rank where it was there, and was taken just then
pub record IsTaken (t : Scored) (old new : List Scored) (taken : Bool) : Type 0 where
  pub left : new ≡ (if taken then remove old (rank_of t old) else old)
  pub present : IsTrue taken ↔ Contains old t
