-- How bytes are fed to a hasher.
use Rattle.std.specs.Prelude.{List, [], ◌∷◌, ℕ}

-- words of eight bytes, of which the last may have fewer
abbrev pub words_of : List ℕ → List (List ℕ)
words_of (a ∷ b ∷ c ∷ d ∷ e ∷ f ∷ g ∷ h ∷ i ∷ more) =
    (a ∷ b ∷ c ∷ d ∷ e ∷ f ∷ g ∷ h ∷ []) ∷ words_of (i ∷ more)
words_of rest = rest ∷ []
