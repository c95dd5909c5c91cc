-- What a request is: its words.
use Rattle.std.specs.Prelude.{ℕ, ◌≤◌, List, length, All}

-- a word of at most 1,048,576 bytes
abbrev pub IsWord : List ℕ → Type 0
IsWord word = length word ≤ 1048576

-- words within the limits, or none
pub record AreWords (words : List (List ℕ)) : Type 0 where
  pub count : length words ≤ 65536
  pub each : All IsWord words

-- what is handed out has a word at least
pub record IsRequest (words : List (List ℕ)) : Type 0 where
  pub some : 1 ≤ length words
  pub limits : AreWords words
