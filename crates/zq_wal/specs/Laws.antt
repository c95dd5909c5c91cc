-- Laws of records, and of what a crash leaves of them.

use Rattle.std.specs.Prelude.{List, Some, [], drop, length, take, ℕ, ◌++◌, ◌<◌, ◌^◌, ◌∷◌, ◌≡◌, ◌≤◌}
use Rattle.zq_wal.specs.Format.{decoded, encoded, file_of, floor_of, payload_over, recovered}
use Rattle.zq_wal.specs.Wal.{AreFloors, IsOutcome, Keeps}

-- records that were written are read
abbrev pub AreReadAgain : Type 0
AreReadAgain = (payloads : List (List ℕ)) → recovered (file_of payloads) ≡ payloads

-- and nothing else is read: a payload has one spelling
abbrev pub HasOneSpelling : Type 0
HasOneSpelling = (chunk payload : List ℕ) → decoded chunk ≡ Some payload →
    chunk ++ 255 ∷ [] ≡ encoded payload

-- the floor and the body of a payload are those that it was made of
abbrev pub IsFloorOf : Type 0
IsFloorOf = (floor : ℕ) (body : List ℕ) → floor < 2 ^ 64 →
    floor_of (payload_over floor body) ≡ floor

abbrev pub IsBodyOf : Type 0
IsBodyOf = (floor : ℕ) (body : List ℕ) → drop 8 (payload_over floor body) ≡ body

-- whatever torn writes leave behind the synced records, these are read, and the others up to some
-- one
abbrev pub TornIsKept : Type 0
TornIsKept = (payloads : List (List ℕ)) (synced : ℕ) (c : List ℕ) →
    synced ≤ length payloads → AreFloors synced payloads →
    IsOutcome payloads synced c → Keeps payloads synced c

-- so the records that were synced are the first that are read, whatever came behind them
abbrev pub SyncedIsRead : Type 0
SyncedIsRead = (synced more : List (List ℕ)) (c : List ℕ) →
    Keeps (synced ++ more) (length synced) c → take (length synced) (recovered c) ≡ synced
