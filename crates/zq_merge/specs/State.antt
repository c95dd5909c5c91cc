-- States: the image of a heap with its rule, how they are spelled, and how bytes are read as one.

use Rattle.std.specs.Option.{ok_or}
use Rattle.std.specs.Prelude.{Err, List, Ok, Result, [], length, ℕ, ◌++◌, ◌<◌, ◌^◌, ◌∷◌}
use Rattle.zq_fields.specs.Fields.{byte_field}
use Rattle.zq_merge.specs.Fields.{frame_at, keys_at}
use Rattle.zq_merge.specs.Frame.{Frame}
use Rattle.zq_merge.specs.Keys.{KeyRows, by_key, rows_in}
use Rattle.zq_merge.specs.Reading.{Read, ◌>>=◌}
use Rattle.zq_merge.specs.Spelling.{frame_bytes, keys_bytes}
use Rattle.zq_merge.specs.Version.{HasRule, HasVector, version_byte, version_of}
use Rattle.zq_merge.specs.declared.fault.StateFault.{StateFault}
use Rattle.zq_merge.specs.declared.fault.StateFault.TheVariants as state
use Rattle.zq_merge.specs.declared.version.Version as version
use Rattle.zq_model.specs.Rows.{image_of_rows, rows_of}
use Rattle.zq_shard.specs.Shard.{HeapImage, IsHeapImage}

-- its numbers are in range, and its rows are no more than a number of eight bytes counts
pub record IsState (s : HeapImage) : Type 0 where
  pub kept : IsHeapImage s
  pub few : length (rows_of s.image) < 2 ^ 64

-- The version has a spelling of the state.
abbrev pub HasSpelling : version.Version → HeapImage → Type 0
HasSpelling v s = HasRule v s.rule × HasVector v s.image.vector

-- what stands before its keys
abbrev pub frame_in : HeapImage → Frame
frame_in s = record { rule = s.rule; heap = record { heap = s.heap; heaps = s.heaps }; vector = s.image.vector }

-- what stands before the keys, and the keys
unfoldable pub fields : version.Version → HeapImage → List ℕ
fields v s = frame_bytes v (frame_in s) ++ keys_bytes v (by_key (rows_of s.image))

-- the version, and the fields
abbrev pub state_spelling : version.Version → HeapImage → List ℕ
state_spelling v s = version_byte v ∷ fields v s

-- ---- reading

abbrev pub version_at : List ℕ → Read version.Version
version_at bytes = do
  b ← ok_or (byte_field bytes) state.Short
  v ← ok_or (version_of b.0) state.Version
  Ok (v, b.1)

-- the state of these parts
abbrev pub heap_image : Frame → List KeyRows → HeapImage
heap_image frame keys = record {
  heap = frame.heap.heap;
  heaps = frame.heap.heaps;
  rule = frame.rule;
  image = image_of_rows frame.vector (rows_in keys);
}

-- nothing follows
abbrev pub end_at : {X : Type 0} → X → List ℕ → Result X StateFault
end_at x [] = Ok x
end_at x (b ∷ bytes) = Err state.Rest

-- a state at the front, and the bytes after it
unfoldable pub front_at : List ℕ → Read HeapImage
front_at bytes = do
  v ← version_at bytes
  frame ← frame_at v.0 (length bytes) v.1
  keys ← keys_at v.0 (length bytes) frame.0 frame.1
  Ok (heap_image frame.0 keys.0, keys.1)

-- the state that the bytes are
abbrev pub state_at : List ℕ → Result HeapImage StateFault
state_at bytes = front_at bytes >>= λ s. end_at s.0 s.1
