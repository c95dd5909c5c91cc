-- The name of a file.
use Rattle.std.specs.Prelude.{ℕ, ◌&&◌, Bool, List, if◌then◌else◌, length, nat_le, Option, Some, None, Result, Ok, Err}
use Rattle.std.specs.Option.{ok_or}
use Rattle.toml.specs.Data.{Data, as_str}
use Rattle.zq_settings.specs.Settings.{◌>>=◌}
use Rattle.zq_settings.specs.declared.key.Key.TheVariants as key
use Rattle.zq_settings.specs.declared.why.Why.{Why}
use Rattle.zq_settings.specs.declared.why.Why.TheVariants.{Kind, Range}

-- 1 to 4096 bytes
abbrev pub is_path : List ℕ → Bool
is_path text = nat_le 1 (length text) && nat_le (length text) 4096

abbrev pub unless_no_path : List ℕ → Result (Option (List ℕ)) Why
unless_no_path text = if is_path text then Ok (Some text) else Err (Range key.PasswordFile)

-- the name of a file, where there is one
abbrev pub password_file_of : Option Data → Result (Option (List ℕ)) Why
password_file_of None = Ok None
password_file_of (Some value) = ok_or (as_str value) (Kind key.PasswordFile) >>= unless_no_path
