-- What a crash leaves of a file in memory.

use Rattle.std.specs.Prelude.{◌≡◌, ◌⊎◌, ℕ, List, [], ◌∷◌, ◌++◌, drop, length, take}
use mathlib.Core.Logic.{inl, inr}
use Rattle.zq_wal.specs.Disk.{IsTear}
use Rattle.zq_wal.specs.declared.image.Image.{Image}
use Rattle.zq_wal.specs.declared.memory_source.MemorySource.{MemorySource}

abbrev pub bytes_of : Image → List ℕ
bytes_of image = image.firm.items ++ image.loose.items

-- the firm bytes, and of the loose ones what a torn write leaves
pub record LeftOf (image : Image) (c : List ℕ) : Type 0 where
  pub left : List ℕ
  pub file : c ≡ image.firm.items ++ left
  pub torn : IsTear left image.loose.items

-- of one of them
abbrev pub AnyLeft : List Image → List ℕ → Type 0
AnyLeft [] c = ⊥
AnyLeft (image ∷ images) c = LeftOf image c ⊎ AnyLeft images c

-- of the log or an elder
abbrev pub LeftNow : Image → List Image → List ℕ → Type 0
LeftNow log elders c = LeftOf log c ⊎ AnyLeft elders c

-- now, or at a moment since
abbrev pub LeftSince : Image → List Image → List Image → ℕ → List ℕ → Type 0
LeftSince log elders past t c = LeftNow log elders c ⊎ AnyLeft (drop t past) c

none_past : (past : List Image) (c : List ℕ) → AnyLeft (drop (length past) past) c → ⊥
none_past [] c had = had
none_past (image ∷ past) c had = none_past past c had

-- since the last moment there is what is there now
pub only_left_now : (log : Image) (elders past : List Image) (c : List ℕ) →
    LeftSince log elders past (length past) c → LeftNow log elders c
only_left_now log elders past c (inl now) = now
only_left_now log elders past c (inr had) = absurd (none_past past c had)

-- what was read
abbrev pub given_of : MemorySource → List ℕ
given_of source = take source.at source.bytes.items
