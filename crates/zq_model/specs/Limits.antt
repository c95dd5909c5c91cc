-- How long the tail of a book may become.

use Rattle.std.specs.Prelude.{None, Option, ℕ}

-- a tail of so many records is cut to so many of its newest, and to so many bytes of keys and
-- members, where there is such a number
pub record TailLimits : Type 0 where
  pub long : ℕ
  pub kept : ℕ
  pub bytes : Option ℕ

-- those of a book where nothing else is said
abbrev pub standard : TailLimits
standard = record { long = 4096; kept = 2048; bytes = None }
