-- Whether a request says the token.

use Rattle.http.specs.FieldValue.{FieldValue}
use Rattle.std.specs.Prelude.{Bool, List, None, Option, Some, codes, ℕ, ◌&&◌, ◌++◌, ◌==◌, ◌≡◌}

abbrev pub both : Bool → ℕ → ℕ → Bool
both same byte other = same && (byte == other)

-- no token is asked for, or the first header `Authorization` says it
abbrev pub SaysToken : Option (List ℕ) → Option FieldValue → Type 0
SaysToken None said = Unit {0}
SaysToken (Some token) None = ⊥
SaysToken (Some token) (Some said) = said.bytes ≡ codes "Bearer " ++ token
