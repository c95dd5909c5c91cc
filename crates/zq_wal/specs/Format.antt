-- The bytes of a record, and the records that bytes hold.

use Rattle.std.specs.Int.{bytes_high_first, from_be_bytes, to_be_bytes, w64}
use Rattle.std.specs.List.{list_any}
use Rattle.std.specs.Prelude.{Bool, List, None, Option, Some, [], bytes_eq, drop, false, if◌then◌else◌, is_none, length, map, nat_lt, not, take, true, ℕ, ◌&&◌, ◌++◌, ◌==◌, ◌∷◌, ◌||◌}
use Rattle.zq_model.specs.Heaps.{fnv1a64}

-- a byte that is 0, 254 or 255 is written as two, so that no byte is 0, and 255 stands at the end
-- of a record alone
abbrev pub escaped : List ℕ → List ℕ
escaped [] = []
escaped (b ∷ bytes) =
    if b == 0 then 254 ∷ 1 ∷ escaped bytes else (
    if b == 254 then 254 ∷ 2 ∷ escaped bytes else (
    if b == 255 then 254 ∷ 3 ∷ escaped bytes else b ∷ escaped bytes))

-- a checksum in eight bytes
abbrev pub sum_bytes : List ℕ → List ℕ
sum_bytes payload = bytes_high_first 8 (fnv1a64 payload)

-- a record: its checksum and its payload, escaped, and the end mark
abbrev pub encoded : List ℕ → List ℕ
encoded payload = escaped (sum_bytes payload ++ payload) ++ 255 ∷ []

-- records one behind another
abbrev pub file_of : List (List ℕ) → List ℕ
file_of [] = []
file_of (payload ∷ payloads) = encoded payload ++ file_of payloads

abbrev pub with_front : Option ℕ → Option (List ℕ) → Option (List ℕ)
with_front None more = None
with_front (Some b) None = None
with_front (Some b) (Some bytes) = Some (b ∷ bytes)

-- the byte that this one stands for, behind an escape or not
abbrev pub meant : Bool → ℕ → Option ℕ
meant true b =
    if b == 1 then Some 0 else (if b == 2 then Some 254 else (if b == 3 then Some 255 else None))
meant false b = if (b == 0) || (b == 255) then None else Some b

-- what was escaped; the flag says that the last byte was 254
abbrev pub unescaped : Bool → List ℕ → Option (List ℕ)
unescaped false [] = Some []
unescaped true [] = None
unescaped false (b ∷ bytes) =
    if b == 254 then unescaped true bytes else with_front (meant false b) (unescaped false bytes)
unescaped true (b ∷ bytes) = with_front (meant true b) (unescaped false bytes)

-- the payload behind its checksum
abbrev pub checked_bytes : List ℕ → Option (List ℕ)
checked_bytes bytes =
    if bytes_eq (take 8 bytes) (sum_bytes (drop 8 bytes)) then Some (drop 8 bytes) else None

abbrev pub checked : Option (List ℕ) → Option (List ℕ)
checked None = None
checked (Some bytes) = checked_bytes bytes

-- the payload of a record without its end mark
abbrev pub decoded : List ℕ → Option (List ℕ)
decoded chunk = checked (unescaped false chunk)

-- what stands before each end mark, behind the one before; the chunk has come before the bytes
abbrev pub chunks_from : List ℕ → List ℕ → List (List ℕ)
chunks_from chunk [] = []
chunks_from chunk (b ∷ bytes) =
    if b == 255 then chunk ∷ chunks_from [] bytes else chunks_from (chunk ++ b ∷ []) bytes

-- the payloads up to the first that is not whole
abbrev pub whole_front : List (Option (List ℕ)) → List (List ℕ)
whole_front [] = []
whole_front (None ∷ more) = []
whole_front (Some payload ∷ more) = payload ∷ whole_front more

-- the records of a file, up to the first that is not whole
abbrev pub recovered : List ℕ → List (List ℕ)
recovered file = whole_front (map decoded (chunks_from [] file))

-- the number in the first eight bytes of a payload: how many records had been synced when it was
-- written
unfoldable pub floor_of : List ℕ → ℕ
floor_of payload = if nat_lt (length payload) 8 then 0 else from_be_bytes w64 (take 8 payload)

-- a body behind the number of the records that are synced
abbrev pub payload_over : ℕ → List ℕ → List ℕ
payload_over synced body = to_be_bytes w64 synced ++ body

-- it ends, is not whole and has no 0: no crash leaves that
abbrev pub is_damaged : List ℕ → Bool
is_damaged chunk = is_none (decoded chunk) && not (list_any (λ b. b == 0) chunk)

-- more records had been synced before it than n
abbrev pub is_late : ℕ → Option (List ℕ) → Bool
is_late n None = false
is_late n (Some payload) = nat_lt n (floor_of payload)

abbrev pub tells_damage : ℕ → List ℕ → Bool
tells_damage n chunk = is_damaged chunk || is_late n (decoded chunk)

-- some chunk has damage that no crash leaves, or was written behind more records than are read
abbrev pub is_corrupt : List ℕ → Bool
is_corrupt file = list_any (tells_damage (length (recovered file))) (chunks_from [] file)
