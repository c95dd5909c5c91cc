-- How much may be left to be taken into the logs.

use Rattle.std.specs.Prelude.{Bool, nat_lt, ℕ}

-- so many operations may be made that are not in the logs yet, before calls wait
abbrev pub MOST_LEFT : ℕ
MOST_LEFT = 65536

-- more are left
abbrev pub is_much : ℕ → Bool
is_much left = nat_lt MOST_LEFT left
