-- The options behind the version of HELLO.

use Rattle.std.specs.Prelude.{Bool, List, None, Option, Some, [], codes, false, if◌then◌else◌, ◌∷◌}
use Rattle.zq_words.specs.Words.{Word, is}

-- a user and a password, and a name for the connection, where they are given
pub record Asks : Type 0 where
  pub entry : Option (Word × Word)
  pub name : Option Word

abbrev pub asks_none : Asks
asks_none = record { entry = None; name = None }

abbrev pub with_entry : Asks → Word → Word → Asks
with_entry asks user text = record asks { entry = Some (user, text) }

abbrev pub with_name : Asks → Word → Asks
with_name asks name = record asks { name = Some name }

-- AUTH and two words stand first
abbrev pub is_auth : List Word → Bool
is_auth (a ∷ b ∷ c ∷ words) = is a (codes "AUTH")
is_auth words = false

-- SETNAME and a word stand first
abbrev pub is_setname : List Word → Bool
is_setname (a ∷ b ∷ words) = is a (codes "SETNAME")
is_setname words = false

-- AUTH with the two words after it, and SETNAME with the one after it, of each of which the last
-- counts; any other word is no option
abbrev pub options_from : Asks → List Word → Option Asks
options_from asks [] = Some asks
options_from asks (a ∷ []) = None
options_from asks (a ∷ b ∷ []) =
    if is a (codes "SETNAME") then Some (with_name asks b) else None
options_from asks (a ∷ b ∷ c ∷ words) =
    if is a (codes "AUTH") then options_from (with_entry asks b c) words else
    if is a (codes "SETNAME") then options_from (with_name asks b) (c ∷ words)
    else None

abbrev pub options_of : List Word → Option Asks
options_of words = options_from asks_none words
