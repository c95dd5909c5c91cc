-- The most that a link keeps.
use Rattle.std.specs.Prelude.{ℕ}

-- the most frames that are held back
abbrev pub most_held : ℕ
most_held = 64
