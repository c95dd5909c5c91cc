-- What is written once all ports are listened on.

use Rattle.std.specs.Prelude.{List, [], codes, decimal, length, slice_index, suc, zero, ℕ, ◌++◌, ◌∷◌}

-- the line of a site, with its number and its port
abbrev pub line_of : ℕ → ℕ → List ℕ
line_of site port = codes "site " ++ decimal site ++ codes " port " ++ decimal port ++ 10 ∷ []

-- the lines of the sites before a place among the ports
abbrev pub lines_before : List ℕ → ℕ → List ℕ
lines_before ports zero = []
lines_before ports (suc site) = lines_before ports site ++ line_of site (slice_index ports site)

abbrev pub announced : List ℕ → List ℕ
announced ports = lines_before ports (length ports)
