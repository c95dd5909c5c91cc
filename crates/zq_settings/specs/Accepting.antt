-- Whom a site accepts, by its word.
use Rattle.std.specs.Prelude.{List, None, Option, Some, codes, if◌then◌else◌, ℕ}
use Rattle.std.specs.Str.{bytes_eq}
use Rattle.zq_settings.specs.declared.accept.Accept.{Accept}
use Rattle.zq_settings.specs.declared.accept.Accept.TheVariants.{Any, Listed}

-- whom a site accepts that has this word, in small letters
abbrev pub accept_named : List ℕ → Option Accept
accept_named word = if bytes_eq word (codes "any") then Some Any else if bytes_eq word
    (codes "listed") then Some Listed else None

-- and how it is written
abbrev pub accept_word : Accept → List ℕ
accept_word Any = codes "any"
accept_word Listed = codes "listed"
