-- Texts that lie one after the other in a run of bytes, by where each ends.

use Rattle.std.specs.Prelude.{List, [], slice_index, slice_range, suc, zero, ℕ, ◌∷◌, ◌≡◌, ◌≤◌}

-- the texts of which the first begins at this place and which end at these
abbrev pub cut : ℕ → List ℕ → List ℕ → List (List ℕ)
cut from [] bytes = []
cut from (end ∷ ends) bytes = slice_range bytes from end ∷ cut end ends bytes

-- they lie within so many bytes, and the last of them ends there
abbrev pub AreEnds : ℕ → List ℕ → ℕ → Type 0
AreEnds from [] len = from ≡ len
AreEnds from (end ∷ ends) len = (from ≤ end) × AreEnds end ends len

-- where the text of a number begins
abbrev pub start_at : ℕ → List ℕ → ℕ → ℕ
start_at from ends zero = from
start_at from ends (suc k) = slice_index ends k
