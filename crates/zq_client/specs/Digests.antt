-- The digest of a password, as it is written.

use Rattle.hex.specs.Hex.{decode_sized}
use Rattle.hex.specs.declared.error.FromHexError.{FromHexError}
use Rattle.std.specs.List.{before_first}
use Rattle.std.specs.Prelude.{Bool, Err, None, Ok, Option, Result, Some, ℕ, ◌==◌, ◌||◌}
use Rattle.zq_words.specs.Words.{Word}

-- a blank, or the end of a line
abbrev pub ends_word : ℕ → Bool
ends_word byte = byte == 32 || (byte == 13 || byte == 10)

-- the bytes before the first of these
abbrev pub first_word : Word → Word
first_word bytes = before_first ends_word bytes

abbrev pub if_written : Result Word FromHexError → Option Word
if_written (Ok digest) = Some digest
if_written (Err error) = None

-- the 32 bytes that stand first, as two hexadecimal digits each, and nothing more before a blank or
-- the end of the line
abbrev pub digest_in : Word → Option Word
digest_in bytes = if_written (decode_sized (first_word bytes) 32)
