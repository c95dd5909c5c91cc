-- How a request is spelled.
use Rattle.std.specs.Prelude.{◌≡◌, ◌⊎◌, ℕ, List, [], ◌∷◌, ◌++◌, length, decimal, codes}
use Rattle.std.specs.List.{flat_map}

-- a number on a line
abbrev pub number_line : ℕ → List ℕ
number_line n = decimal n ++ 13 ∷ 10 ∷ []

abbrev pub word_text : List ℕ → List ℕ
word_text word = 36 ∷ number_line (length word) ++ (word ++ 13 ∷ 10 ∷ [])

-- the count of the words, and the words
abbrev pub spelling : List (List ℕ) → List ℕ
spelling words = 42 ∷ number_line (length words) ++ flat_map word_text words

-- A request of no words has a second spelling.
abbrev pub Spells : List ℕ → List (List ℕ) → Type 0
Spells text words = (text ≡ spelling words) ⊎ ((words ≡ []) × (text ≡ codes "*-1\r\n"))
