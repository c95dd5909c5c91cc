-- How much the program's log says, by its word.
use Rattle.std.specs.Prelude.{List, None, Option, Some, codes, if◌then◌else◌, ℕ}
use Rattle.std.specs.Str.{bytes_eq}
use Rattle.zq_settings.specs.declared.log_level.LogLevel.{LogLevel}
use Rattle.zq_settings.specs.declared.log_level.LogLevel.TheVariants.{Debug, Info, Warn}

-- what has this word, in small letters
abbrev pub log_level_named : List ℕ → Option LogLevel
log_level_named word = if bytes_eq word (codes "warn") then Some Warn else if bytes_eq word
    (codes "info") then Some Info else if bytes_eq word (codes "debug") then Some Debug else None

-- and how it is written
abbrev pub log_level_word : LogLevel → List ℕ
log_level_word Warn = codes "warn"
log_level_word Info = codes "info"
log_level_word Debug = codes "debug"
