-- What a connection has of its own.

use Rattle.std.specs.Prelude.{Bool, List, None, Option, Some, [], false, if◌then◌else◌, true, ℕ, ℤ, ◌-◌, ◌==◌}

-- its number, whether it is known, its name, how many wrong passwords it may still show, and
-- whether it ends
pub record Client : Type 0 where
  pub number : ℤ
  pub is_known : Bool
  pub name : List ℕ
  pub left : ℕ
  pub is_over : Bool

-- with no digest there is no password to show
abbrev pub needs_none : Option (List ℕ) → Bool
needs_none None = true
needs_none (Some digest) = false

-- a connection begins at a site whose password has this digest, if it has one
abbrev pub begun : Option (List ℕ) → ℤ → Client
begun digest number =
    record { number = number; is_known = needs_none digest; name = []; left = 10; is_over = false }

-- it has shown the password
abbrev pub known : Client → Client
known client = record client { is_known = true }

-- it has this name
abbrev pub named : List ℕ → Client → Client
named name client = record client { name = name }

-- it is as it began, but for the wrong passwords that it has shown
abbrev pub again : Option (List ℕ) → Client → Client
again digest client = record client { is_known = needs_none digest; name = [] }

-- it ends, and nobody is known by it any more
abbrev pub ended : Client → Client
ended client = record client { is_known = false; is_over = true }

-- it showed a wrong password, and ends with the last that it may show
abbrev pub missed : Client → Client
missed client =
    if client.left - 1 == 0 then ended (record client { left = 0 })
    else record client { left = client.left - 1 }
