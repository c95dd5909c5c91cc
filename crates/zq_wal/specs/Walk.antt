-- What is known of a file whose first bytes have been walked.

use Rattle.std.specs.List.{list_any}
use Rattle.std.specs.Prelude.{Bool, List, [], if◌then◌else◌, is_none, length, nat_lt, ◌<◌, ◌≤◌, ◌^◌, ℕ, ◌++◌, ◌==◌, ◌∷◌, ◌≡◌}
use Rattle.zq_wal.specs.Chunk.{IsChunk}
use Rattle.zq_wal.specs.Format.{chunks_from, decoded, file_of, is_damaged, is_late, recovered}
use Rattle.zq_wal.specs.declared.walk.Known.{Known}
use Rattle.zq_wal.specs.declared.walk.Walk.{Walk}

-- what stands behind the last end mark; the chunk has come before the bytes
abbrev pub tail_of : List ℕ → List ℕ → List ℕ
tail_of chunk [] = chunk
tail_of chunk (b ∷ bytes) = if b == 255 then tail_of [] bytes else tail_of (chunk ++ b ∷ []) bytes

abbrev pub is_torn : List ℕ → Bool
is_torn chunk = is_none (decoded chunk)

-- of the chunks of these bytes this is known
pub record IsKnown (bytes : List ℕ) (known : Known) : Type 0 where
  pub count : known.count ≡ length (recovered bytes)
  pub end : known.end ≡ length (file_of (recovered bytes))
  pub torn : known.torn ≡ list_any is_torn (chunks_from [] bytes)
  pub damaged : known.damaged ≡ list_any is_damaged (chunks_from [] bytes)
  pub highest : (n : ℕ) → nat_lt n known.highest
      ≡ list_any (λ c. is_late n (decoded c)) (chunks_from [] bytes)

-- these bytes have been walked
pub record IsWalk (bytes : List ℕ) (walk : Walk) : Type 0 where
  pub walked : walk.walked ≡ length bytes
  pub chunk : IsChunk (tail_of [] bytes) walk.chunk
  pub known : IsKnown bytes walk.known

-- more can be walked, and there is room for a piece
pub record IsRoomy (walk : Walk) (bytes : List ℕ) : Type 0 where
  pub count : walk.known.count ≤ walk.walked
  pub walked : walk.walked ≤ 2 ^ 60
  pub piece : 0 < length bytes
