-- How long a connection has been a stranger.
use Rattle.std.specs.Prelude.{Bool, None, Option, Some, false, true, ◌-◌, ◌≤◌, ℕ}

-- since when one is a stranger that comes now
abbrev pub begun : Bool → ℕ → Option ℕ
begun true now = Some now
begun false now = None

-- since when one is that has been one since then
abbrev pub noted : Bool → ℕ → Option ℕ → Option ℕ
noted false now since = None
noted true now None = Some now
noted true now (Some since) = Some since

-- it has been one for ten seconds
abbrev pub IsLate : Option ℕ → ℕ → Type 0
IsLate None now = ⊥
IsLate (Some since) now = 10 ≤ now - since
