-- A frame in a stream: behind its length, four bytes with the highest first.
use Rattle.std.specs.Prelude.{◌≡◌, ℕ, ◌<◌, ◌≤◌, ◌^◌, ◌⊎◌, List, ◌++◌, length}
use Rattle.std.specs.Int.{to_be_bytes, w32}

-- the bytes of a frame with its length
unfoldable pub framed : List ℕ → List ℕ
framed frame = to_be_bytes w32 (length frame) ++ frame

-- These bytes begin with a length above the most.
pub record IsTooLong (most : ℕ) (bytes : List ℕ) : Type 0 where
  pub size : ℕ
  pub after : List ℕ
  pub begins : bytes ≡ to_be_bytes w32 size ++ after
  pub fits : size < 2 ^ 32
  pub long : most < size

-- These bytes are a length within the most, and fewer bytes than it says.
pub record IsCut (most : ℕ) (bytes : List ℕ) : Type 0 where
  pub size : ℕ
  pub body : List ℕ
  pub begins : bytes ≡ to_be_bytes w32 size ++ body
  pub small : size ≤ most
  pub short : length body < size

-- less than a frame with its length: a part of a length, or a length and too few bytes
abbrev pub IsUnfinished : ℕ → List ℕ → Type 0
IsUnfinished most bytes = (length bytes < 4) ⊎ IsCut most bytes
