-- What is written of frames.

use Rattle.std.specs.Io.KnownBytes.{Appends}
use Rattle.std.specs.List.{flat_map}
use Rattle.std.specs.Prelude.{List, Option, [], if◌then◌else◌, ℕ, ◌≡◌}
use Rattle.zq_site.specs.Times.{is_too_long}
use Rattle.zq_site.specs.declared.writing.Written.{Written}
use Rattle.zq_site.specs.declared.writing.Written.TheVariants.{Broken, Dropped, Whole}
use Rattle.zq_wire.specs.Framed.{framed}

-- a frame behind its length, unless it is too long
abbrev pub framed_if : List ℕ → List ℕ
framed_if frame = if is_too_long frame then [] else framed frame

-- the frames, each behind its length, but for those that are too long
abbrev pub framed_each : List (List ℕ) → List ℕ
framed_each frames = flat_map framed_if frames

-- what the writer held and holds, the frames, and what became of them
abbrev pub AreWritten : Option (List ℕ) → Option (List ℕ) → List (List ℕ) → Written → Type 0
AreWritten held holds frames Whole = Appends held holds (framed_each frames)
AreWritten held holds frames Dropped = holds ≡ held
AreWritten held holds frames Broken = Unit {0}
