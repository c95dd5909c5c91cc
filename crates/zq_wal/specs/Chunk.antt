-- A chunk as far as it has come.

use Rattle.std.specs.List.{list_any}
use Rattle.std.specs.Prelude.{Bool, List, None, Option, Some, false, if◌then◌else◌, ℕ, ◌++◌, ◌==◌, ◌≡◌}
use Rattle.zq_wal.specs.Format.{unescaped}
use Rattle.zq_wal.specs.declared.chunk.Chunk.{Chunk}

abbrev pub behind : List ℕ → Option (List ℕ) → Option (List ℕ)
behind front None = None
behind front (Some bytes) = Some (front ++ bytes)

-- what comes of it with the bytes that follow, of which this is what was escaped
abbrev pub with_rest : Bool → List ℕ → Option (List ℕ) → Option (List ℕ)
with_rest spoilt front rest = if spoilt then None else behind front rest

-- these are its bytes
pub record IsChunk (bytes : List ℕ) (chunk : Chunk) : Type 0 where
  pub zero : chunk.has_zero ≡ list_any (λ b. b == 0) bytes
  pub means : (more : List ℕ) → unescaped false (bytes ++ more)
      ≡ with_rest chunk.spoilt chunk.bytes.items (unescaped chunk.escaped more)
