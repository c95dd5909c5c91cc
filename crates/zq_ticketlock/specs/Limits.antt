-- The numbers that a lock promises.
use Rattle.std.specs.Prelude.{ℕ}

-- the last value of both words, at which no ticket is drawn: 2 ^ 62
abbrev pub last_ticket : ℕ
last_ticket = 4611686018427387904
