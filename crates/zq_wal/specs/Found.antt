-- What is found in a file.

use Rattle.std.specs.Prelude.{List, [], drop, false, length, take, ℕ, ◌≡◌, ◌≤◌}
use Rattle.zq_wal.specs.Format.{file_of, is_corrupt, recovered}
use Rattle.zq_wal.specs.declared.recovery.Found.{Found}

-- a file that begins with so many whole records, behind whose end there is none, and that has no
-- damage
pub record IsFound (file : List ℕ) (found : Found) : Type 0 where
  pub count : found.count ≡ length (recovered file)
  pub within : found.end ≤ length file
  pub front : take found.end file ≡ file_of (recovered file)
  pub rest : recovered (drop found.end file) ≡ []
  pub sound : is_corrupt file ≡ false
