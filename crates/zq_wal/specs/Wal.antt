-- A log, and what a crash leaves of it.

use Rattle.std.specs.Prelude.{List, None, Option, Some, [], false, length, take, drop, ℕ, ◌++◌, ◌∷◌, ◌≡◌, ◌≤◌, ◌⊎◌}
use Rattle.zq_wal.specs.Disk.{IsTear}
use Rattle.zq_wal.specs.Format.{file_of, floor_of, is_corrupt, recovered}
use Rattle.zq_wal.specs.declared.wal.Wal.{Wal}

-- the first n records stand, and of the bytes of the others what a torn write leaves
pub record IsOutcome (payloads : List (List ℕ)) (n : ℕ) (c : List ℕ) : Type 0 where
  pub left : List ℕ
  pub file : c ≡ file_of (take n payloads) ++ left
  pub torn : IsTear left (file_of (drop n payloads))

-- the records up to some one are read, the first n at least, none of them in part; and nothing is
-- taken for damage
pub record Keeps (payloads : List (List ℕ)) (n : ℕ) (c : List ℕ) : Type 0 where
  pub at : ℕ
  pub least : n ≤ at
  pub most : at ≤ length payloads
  pub read : recovered c ≡ take at payloads
  pub sound : is_corrupt c ≡ false

-- before each of the records at most n had been synced
abbrev pub AreFloors : ℕ → List (List ℕ) → Type 0
AreFloors n [] = Unit {0}
AreFloors n (payload ∷ payloads) = (floor_of payload ≤ n) × AreFloors n payloads

-- bytes that are so many whole records, before none of which one had been synced
pub record AreRecords (n : ℕ) (file : List ℕ) : Type 0 where
  pub bytes : file ≡ file_of (recovered file)
  pub count : n ≡ length (recovered file)
  pub floors : AreFloors 0 (recovered file)

-- the next file, where one is begun, is whole records
abbrev pub IsNext : Option ℕ → List ℕ → Type 0
IsNext None staged = Unit {0}
IsNext (Some n) staged = AreRecords n staged

-- the file is whole records, and a crash leaves those that were synced and of the others what a
-- torn write leaves
pub record IsLog {D : Type 0} (seen staged : D → List ℕ) (may_leave : D → List ℕ → Type 0)
    (log : Wal D) : Type 0 where
  pub file : seen log.disk ≡ file_of (recovered (seen log.disk))
  pub count : log.count ≡ length (recovered (seen log.disk))
  pub synced : log.synced ≤ log.count
  pub floors : AreFloors log.synced (recovered (seen log.disk))
  pub outcomes : (c : List ℕ) → may_leave log.disk c →
      IsOutcome (recovered (seen log.disk)) log.synced c
  pub next : IsNext log.next (staged log.disk)

-- it is read as the file is, and if nothing in that is damaged nothing is in this
pub record Reads (file c : List ℕ) : Type 0 where
  pub read : recovered c ≡ recovered file
  pub sound : is_corrupt file ≡ false → is_corrupt c ≡ false

-- what is kept of some records, or all of the others
abbrev pub KeepsEither : List (List ℕ) → ℕ → List (List ℕ) → List ℕ → Type 0
KeepsEither payloads n others c = Keeps payloads n c ⊎ Keeps others (length others) c
