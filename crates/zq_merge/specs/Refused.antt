-- Where memory is refused while a state is read: all up to the field that needed it is read,
-- without a fault.

use Rattle.std.specs.Prelude.{IsOk, List, Ok, Option, [], length, slice_index, ℕ, ◌+◌, ◌<◌, ◌≡◌, ◌≢◌, ◌⊎◌}
use Rattle.zq_merge.specs.Fields.{LAST_NUMBER, additions_at, frame_at, last_key, last_member, later_addition_at, later_key_at, later_member_at, later_sum_at, next_sum_at, placed_member_at}
use Rattle.zq_merge.specs.Frame.{Frame}
use Rattle.zq_merge.specs.Reading.{Read, counter_at, many_at, next_site, of_part, rising_text_at, site_at}
use Rattle.zq_merge.specs.State.{version_at}
use Rattle.zq_merge.specs.Version.{sites}
use Rattle.zq_merge.specs.declared.fault.StateFault.{StateFault}
use Rattle.zq_merge.specs.declared.fault.StateFault.TheVariants.{NoMemory}
use Rattle.zq_merge.specs.declared.version.Version.{Version}
use Rattle.zq_merge.specs.declared.version.Version.TheVariants.{One, Three, Two}
use Rattle.zq_model.specs.Sets.{SITES}
use Rattle.zq_fields.specs.Reading.{byte_in, number_in, score_at}
use Rattle.zq_fields.specs.Vectors.{DENSE_SITES}

-- a fault of the bytes, and not want of memory
abbrev pub IsOfBytes : StateFault → Type 0
IsOfBytes fault = fault ≢ NoMemory

-- a part is read, and memory is refused in what stands behind it
pub record IsBehind {X : Type 0} (read : Read X) (refused : X → List ℕ → Type 0) : Type 0 where
  pub found : X
  pub rest : List ℕ
  pub reads : read ≡ Ok (found, rest)
  pub there : refused found rest

-- the first of so many items are read, and memory is refused at the next one
pub record IsAmong {X : Type 0} (read : List X → List ℕ → Read X) (refused : List X → List ℕ →
    Type 0) (count : ℕ) (bytes : List ℕ) : Type 0 where
  pub before : List X
  pub rest : List ℕ
  pub few : length before < count
  pub reads : many_at read (length before) [] bytes ≡ Ok (before, rest)
  pub there : refused before rest

-- ---- an addition: its site, its counter and its score are read, and a sum

abbrev pub IsInFirstSums : List ℕ → List ℕ → Type 0
IsInFirstSums vector bytes =
    IsAmong (next_sum_at vector) (λ sums rest. IsOk (next_sum_at vector sums rest)) DENSE_SITES
    bytes

abbrev pub IsInSomeSums : ℕ → List ℕ → ℕ → List ℕ → Type 0
IsInSomeSums whole vector count bytes =
    IsAmong (later_sum_at whole vector) (λ sums rest. IsOk (later_sum_at whole vector sums rest))
    count bytes

abbrev pub IsInListedSums : ℕ → List ℕ → List ℕ → Type 0
IsInListedSums whole vector bytes =
    IsBehind (of_part (byte_in whole 0 (SITES + 1) bytes)) (IsInSomeSums whole vector)

abbrev pub IsInSums : Version → ℕ → List ℕ → List ℕ → Type 0
IsInSums One whole vector bytes = IsInFirstSums vector bytes
IsInSums Two whole vector bytes = IsInListedSums whole vector bytes
IsInSums Three whole vector bytes = IsInListedSums whole vector bytes

abbrev pub IsInAddition : Version → ℕ → List ℕ → ℕ → List ℕ → Type 0
IsInAddition v whole vector low bytes =
    IsBehind (site_at whole (sites v) low bytes) (λ site rest.
    IsBehind (counter_at (slice_index vector site) rest) (λ n rest.
    IsBehind (of_part (score_at rest)) (λ score rest. IsInSums v whole vector rest)))

-- ---- a member: its bytes are read, and in its additions a sum, an addition, or all of them

abbrev pub IsInSomeAdditions : Version → ℕ → List ℕ → ℕ → List ℕ → Type 0
IsInSomeAdditions v whole vector count bytes =
    IsAmong (later_addition_at v whole vector)
    (λ before rest. IsInAddition v whole vector (next_site before) rest
    ⊎ IsOk (later_addition_at v whole vector before rest)) count bytes

abbrev pub IsInAdditions : Version → ℕ → List ℕ → List ℕ → Type 0
IsInAdditions v whole vector bytes =
    IsBehind (of_part (byte_in whole 1 (sites v + 1) bytes)) (IsInSomeAdditions v whole vector)

abbrev pub IsInEntry : Version → ℕ → List ℕ → List ℕ → Type 0
IsInEntry v whole vector bytes = IsInAdditions v whole vector bytes
    ⊎ IsOk (additions_at v whole vector bytes)

abbrev pub IsInMember : Version → ℕ → Frame → List ℕ → Option (List ℕ) → List ℕ → Type 0
IsInMember v whole frame key before bytes =
    IsBehind (placed_member_at frame.heap key before bytes)
    (λ member rest. IsInEntry v whole frame.vector rest)

-- ---- a key: its bytes and the number of its members are read

abbrev pub IsInSomeMembers : Version → ℕ → Frame → List ℕ → ℕ → List ℕ → Type 0
IsInSomeMembers v whole frame key count bytes =
    IsAmong (later_member_at v whole frame key)
    (λ before rest. IsInMember v whole frame key (last_member before) rest) count bytes

abbrev pub IsInMembers : Version → ℕ → Frame → List ℕ → List ℕ → Type 0
IsInMembers v whole frame key bytes =
    IsBehind (of_part (number_in whole 1 LAST_NUMBER bytes)) (IsInSomeMembers v whole frame key)

abbrev pub IsInKey : Version → ℕ → Frame → Option (List ℕ) → List ℕ → Type 0
IsInKey v whole frame before bytes =
    IsBehind (rising_text_at before bytes) (IsInMembers v whole frame)

-- ---- the state: all that stands before its keys is read, and their number

abbrev pub IsInSomeKeys : Version → ℕ → Frame → ℕ → List ℕ → Type 0
IsInSomeKeys v whole frame count bytes =
    IsAmong (later_key_at v whole frame) (λ before rest.
    IsInKey v whole frame (last_key before) rest) count bytes

abbrev pub IsInKeys : Version → ℕ → Frame → List ℕ → Type 0
IsInKeys v whole frame bytes = IsBehind (of_part (number_in whole 0 LAST_NUMBER bytes))
    (IsInSomeKeys v whole frame)

-- memory is refused in the state that the bytes are, or begin
abbrev pub IsRefusedIn : List ℕ → Type 0
IsRefusedIn bytes = IsBehind (version_at bytes)
    (λ v rest. IsBehind (frame_at v (length bytes) rest) (IsInKeys v (length bytes)))
