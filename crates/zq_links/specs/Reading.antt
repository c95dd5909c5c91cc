-- Reading a frame from left to right, with the first fault that is met.

use Rattle.std.specs.Int.{w32}
use Rattle.std.specs.Option.{ok_or}
use Rattle.std.specs.Prelude.{Err, List, Ok, Result, [], drop, length, suc, zero, ℕ, ◌++◌, ◌∷◌}
use Rattle.zq_delta.specs.Reading.{found_at}
use Rattle.zq_delta.specs.declared.fault.OpFault.{OpFault}
use Rattle.zq_dots.specs.Placed.{Placed}
use Rattle.zq_fields.specs.Fields.{byte_field, number_field}
use Rattle.zq_links.specs.Frame.{Frame, OfHave, OfOps, OfState}
use Rattle.zq_links.specs.Have.{have_at}
use Rattle.zq_links.specs.Kind.{kind_of}
use Rattle.zq_links.specs.declared.frame_fault.FrameFault.{FrameFault}
use Rattle.zq_links.specs.declared.frame_fault.FrameFault.TheVariants as frame
use Rattle.zq_links.specs.declared.kind.Kind.{Kind}
use Rattle.zq_links.specs.declared.kind.Kind.TheVariants as kind
use Rattle.zq_merge.specs.State.{state_at}
use Rattle.zq_merge.specs.declared.fault.StateFault.{StateFault}
use Rattle.zq_fields.specs.declared.fault.PartFault.{PartFault}
use Rattle.zq_fields.specs.declared.fault.PartFault.TheVariants.{Field, Length, Score, Short}

-- what is read at the front of the bytes, or the fault
abbrev pub Read : Type 0 → Type 0
Read X = Result (X × List ℕ) FrameFault

infixl 10 ◌>>=◌
abbrev pub ◌>>=◌ : {X Y : Type 0} → Result X FrameFault → (X → Result Y FrameFault) →
    Result Y FrameFault
(Ok x) >>= f = f x
(Err fault) >>= f = Err fault

-- The fault of a part is the frame's. A Have has no text and no score.
abbrev pub fault_of : PartFault → FrameFault
fault_of Short = frame.Short
fault_of (Field place) = frame.Field place
fault_of Length = frame.Short
fault_of Score = frame.Short

abbrev pub of_part : {X : Type 0} → Result X PartFault → Result X FrameFault
of_part (Ok x) = Ok x
of_part (Err fault) = Err (fault_of fault)

-- the fault of the i-th operation
abbrev pub of_op : {X : Type 0} → ℕ → Result X OpFault → Result X FrameFault
of_op i (Ok x) = Ok x
of_op i (Err fault) = Err (frame.Op i fault)

abbrev pub of_state : {X : Type 0} → Result X StateFault → Result X FrameFault
of_state (Ok x) = Ok x
of_state (Err fault) = Err (frame.State fault)

abbrev pub kind_at : List ℕ → Read Kind
kind_at bytes = do
  b ← ok_or (byte_field bytes) frame.Short
  k ← ok_or (kind_of b.0) frame.Kind
  Ok (k, b.1)

-- ---- operations

-- the i-th operation
abbrev pub op_in : ℕ → List ℕ → Read Placed
op_in i bytes = of_op i (found_at bytes) >>= λ o. Ok (o.0, drop o.1 bytes)

-- k operations after these
unfoldable pub more_ops_at : ℕ → List Placed → List ℕ → Read (List Placed)
more_ops_at zero ops bytes = Ok (ops, bytes)
more_ops_at (suc k) ops bytes = do
  o ← op_in (length ops) bytes
  more_ops_at k (ops ++ o.0 ∷ []) o.1

-- a number of operations, and as many
unfoldable pub ops_at : List ℕ → Read (List Placed)
ops_at bytes = do
  count ← ok_or (number_field w32 bytes) frame.Short
  more_ops_at count.0 [] count.1

-- ---- frames

-- nothing follows
abbrev pub end_at : Frame → List ℕ → Result Frame FrameFault
end_at f [] = Ok f
end_at f (b ∷ bytes) = Err frame.Rest

-- what follows the kind, in a frame of so many bytes
abbrev pub body_at : Kind → ℕ → List ℕ → Result Frame FrameFault
body_at (kind.Have v) whole bytes = of_part (have_at v whole bytes) >>= λ h. end_at (OfHave h.0) h.1
body_at kind.Ops whole bytes = ops_at bytes >>= λ ops. end_at (OfOps ops.0) ops.1
body_at kind.State whole bytes = of_state (state_at bytes) >>= λ s. Ok (OfState s)

-- the frame that the bytes are
abbrev pub frame_at : List ℕ → Result Frame FrameFault
frame_at bytes = kind_at bytes >>= λ k. body_at k.0 (length bytes) k.1
