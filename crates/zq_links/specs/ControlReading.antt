-- Reading a control frame from left to right, with the first fault that is met.

use Rattle.std.specs.Option.{ok_or}
use Rattle.std.specs.Prelude.{Err, List, Ok, Result, [], length, ℕ, ◌∷◌}
use Rattle.zq_fields.specs.Fields.{byte_field}
use Rattle.zq_links.specs.Control.{Control}
use Rattle.zq_links.specs.ControlKind.{kind_of}
use Rattle.zq_links.specs.ControlParts.{body_at}
use Rattle.zq_links.specs.Reading.{Read, of_part, ◌>>=◌}
use Rattle.zq_links.specs.declared.control.kind.ControlKind.{ControlKind}
use Rattle.zq_links.specs.declared.frame_fault.FrameFault.{FrameFault}
use Rattle.zq_links.specs.declared.frame_fault.FrameFault.TheVariants as frame

abbrev pub kind_at : List ℕ → Read ControlKind
kind_at bytes = do
  b ← ok_or (byte_field bytes) frame.Short
  k ← ok_or (kind_of b.0) frame.Kind
  Ok (k, b.1)

-- nothing follows
abbrev pub end_at : Control → List ℕ → Result Control FrameFault
end_at c [] = Ok c
end_at c (b ∷ bytes) = Err frame.Rest

-- what follows the kind, and nothing more, in a frame of so many bytes
abbrev pub rest_at : ControlKind → ℕ → List ℕ → Result Control FrameFault
rest_at k whole bytes = of_part (body_at k whole bytes) >>= λ c. end_at c.0 c.1

-- the control frame that the bytes are
abbrev pub control_at : List ℕ → Result Control FrameFault
control_at bytes = kind_at bytes >>= λ k. rest_at k.0 (length bytes) k.1
