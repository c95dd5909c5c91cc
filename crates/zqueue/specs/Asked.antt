-- What the words of a command line ask for.

use Rattle.zqueue.specs.declared.asked.Command.TheVariants.{Adopt, Check, Drill, Inspect, Members, Pipe, Serve, Site, Status, Stop}
use Rattle.zqueue.specs.declared.asked.Command.{Command}
use Rattle.std.specs.Prelude.{List, None, Option, Some, [], codes, ℕ, ◌∷◌, ◌≡◌, ◌≤◌, ◌⊎◌}
use Rattle.std.specs.Str.Parse.{IsNumeral, digits_value}

-- the greatest seed, and the greatest number of rounds
abbrev pub SEEDS : ℕ
SEEDS = 18446744073709551615

abbrev pub ROUNDS : ℕ
ROUNDS = 1000000

-- the greatest number of a site
abbrev pub LAST_SITE : ℕ
LAST_SITE = 63

-- the text is one or more digits, which write a number of at most so much
abbrev pub IsNumber : List ℕ → ℕ → Type 0
IsNumber text most = IsNumeral 10 text × (digits_value 10 text ≤ most)

-- two words, a drill's seed and its number of rounds
pub record AreNumbers (rest : List (List ℕ)) (seed rounds : ℕ) : Type 0 where
  pub first : List ℕ
  pub second : List ℕ
  pub words : rest ≡ first ∷ second ∷ []
  pub seeds : IsNumber first SEEDS
  pub seed_is : seed ≡ digits_value 10 first
  pub most : IsNumber second ROUNDS
  pub rounds_is : rounds ≡ digits_value 10 second

-- three words, two folders and a site's number
pub record AreFolders (rest : List (List ℕ)) (old new : List ℕ) (site : ℕ) : Type 0 where
  pub word : List ℕ
  pub words : rest ≡ old ∷ new ∷ word ∷ []
  pub number : IsNumber word LAST_SITE
  pub site_is : site ≡ digits_value 10 word

-- the words behind the name of a command that is of a log
abbrev pub NamesOfLog : List (List ℕ) → Command → Type 0
NamesOfLog rest (Inspect path) = rest ≡ path.bytes.items ∷ []
NamesOfLog rest (Check path) = rest ≡ codes "--check" ∷ path.bytes.items ∷ []
NamesOfLog rest (Members key path) =
    rest ≡ codes "--members" ∷ key.bytes.items ∷ path.bytes.items ∷ []
NamesOfLog rest _ = ⊥

-- what these words ask for of a log, where they ask for anything
abbrev pub AsksOfLog : List (List ℕ) → Option Command → Type 0
AsksOfLog rest None = (command : Command) → ¬ NamesOfLog rest command
AsksOfLog rest (Some command) = NamesOfLog rest command

-- the name of any other command, and the words behind it
abbrev pub NamesOther : List ℕ → List (List ℕ) → Command → Type 0
NamesOther name rest Pipe = (name ≡ codes "pipe") × (rest ≡ [])
NamesOther name rest (Serve path) = (name ≡ codes "serve") × (rest ≡ path.bytes.items ∷ [])
NamesOther name rest (Site path) = (name ≡ codes "site") × (rest ≡ path.bytes.items ∷ [])
NamesOther name rest (Stop path) = (name ≡ codes "stop") × (rest ≡ path.bytes.items ∷ [])
NamesOther name rest (Status path) = (name ≡ codes "status") × (rest ≡ path.bytes.items ∷ [])
NamesOther name rest (Drill seed rounds) = (name ≡ codes "drill") × AreNumbers rest seed rounds
NamesOther name rest (Adopt old new site) =
    (name ≡ codes "adopt") × AreFolders rest old.bytes.items new.bytes.items site
NamesOther name rest (Inspect path) = ⊥
NamesOther name rest (Check path) = ⊥
NamesOther name rest (Members key path) = ⊥

-- what these words ask for beside a log, where they ask for anything
abbrev pub AsksOther : List ℕ → List (List ℕ) → Option Command → Type 0
AsksOther name rest None = (command : Command) → ¬ NamesOther name rest command
AsksOther name rest (Some command) = NamesOther name rest command

-- the command's name, and the words behind it
abbrev pub Names : List ℕ → List (List ℕ) → Command → Type 0
Names name rest command = ((name ≡ codes "inspect") × NamesOfLog rest command)
    ⊎ NamesOther name rest command

-- what these words ask for, where they ask for anything
abbrev pub Asks : List ℕ → List (List ℕ) → Option Command → Type 0
Asks name rest None = (command : Command) → ¬ Names name rest command
Asks name rest (Some command) = Names name rest command

-- the program's name stands first
abbrev pub IsAsked : List (List ℕ) → Option Command → Type 0
IsAsked (program ∷ (name ∷ rest)) command = Asks name rest command
IsAsked words command = command ≡ None
