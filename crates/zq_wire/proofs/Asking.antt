-- Where memory is asked for within a piece.
use Rattle.std.proofs.Common.{Global, Vec, ap, arith, map, refl, subst, sym, ◌∙◌, append_assoc}
use Rattle.std.proofs.lemmas.List.{append-nil}
use Rattle.std.specs.Prelude.{◌≡◌, ◌≢◌, ◌<◌, ◌≤◌, ◌^◌, ℕ, Err, IfErr, List, None, Ok, Option, Result, Some, [], length, ◌∷◌, ◌++◌}
use Rattle.std.specs.Int.{to_be_bytes, w32}
use Rattle.zq_fields.proofs.Again.{u32_read}
use Rattle.zq_fields.specs.Fields.{number_field}
use Rattle.zq_wire.proofs.Framed.{same_length}
use Rattle.zq_wire.proofs.Streams.{frames_more}
use Rattle.zq_wire.specs.Framed.{IsTooLong}
use Rattle.zq_wire.specs.declared.fault.StreamFault.{StreamFault}
use Rattle.zq_wire.specs.declared.fault.StreamFault.TheVariants.{NoMemory}
use Rattle.zq_wire.specs.Memory.{AsksMemory, kept_after}
use Rattle.zq_wire.specs.Stream.{Frames, Reaches, frames_in}

-- a length within the most is not above it, nor is a part of one
pub length_within : (most size : ℕ) (bytes rest : List ℕ) → bytes ≡ to_be_bytes w32 size ++ rest → size < 2 ^ 32 → size ≤ most → IsTooLong most bytes → ⊥
length_within most size bytes rest is fits small long =
    let lengths = same_length long.size size long.after rest long.fits fits (sym long.begins ∙ is) in
    let above = long.long in
    absurd (omega (arith, lengths.0, above, small))

pub none_within : (most : ℕ) (bytes : List ℕ) → number_field w32 bytes ≡ None → IsTooLong most bytes → ⊥
none_within most bytes none long =
    let found = ap (number_field w32) long.begins ∙ u32_read long.size long.after long.fits in
    let e : ◌≡◌ {A = Option (ℕ × List ℕ)} None (Some (long.size, long.after)) = sym none ∙ found in
    absurd cc

-- Of a text these bytes were kept, and others were read with the rest to come. Where none were kept and some were read, they
-- begin with no length above the most.
pub record IsReading (most : ℕ) (kept text rest : List ℕ) : Type 0 where
  pub read : List ℕ
  pub is : text ≡ kept ++ read
  pub within : kept ≡ [] → read ≢ [] → IsTooLong most (read ++ rest) → ⊥

nothing_is : (kept : List ℕ) → kept ≡ [] → kept ++ [] ≡ []
nothing_is kept none = append-nil kept ∙ none

-- what came begins with no length above the most, where nothing was kept
came_within : (most : ℕ) (kept text rest read : List ℕ) → text ≡ kept ++ read → (kept ≡ [] → read ≢ [] → IsTooLong most (read ++ rest) → ⊥) → (text ≡ [] → IsTooLong most rest → ⊥) → kept ≡ [] → IsTooLong most (read ++ rest) → ⊥
came_within most kept text rest [] is within new none long = new (is ∙ nothing_is kept none) long
came_within most kept text rest (b ∷ read) is within new none long = within none (λ (e : b ∷ read ≡ []). absurd cc) long

some_more : (read rest : List ℕ) → 0 < length rest → read ++ rest ≢ []
some_more [] rest some = λ e. absurd (omega (arith, some, ap length e))
some_more (b ∷ read) rest some = λ (e : b ∷ (read ++ rest) ≡ []). absurd cc

pub asks_here : (most : ℕ) (had piece text rest : List ℕ) (before : Frames) → Reaches most (had ++ piece) before (text ++ rest) → IsReading most (kept_after before had) text rest → 0 < length rest →
    (text ≡ [] → IsTooLong most rest → ⊥) → AsksMemory most had piece before
asks_here most had piece text rest before reaches reading some new =
    let kept = kept_after before had in
    let rests : text ++ rest ≡ kept ++ (reading.read ++ rest) = ap (λ front. front ++ rest) reading.is ∙ append_assoc kept reading.read rest in
    record {
      more = reading.read ++ rest;
      reaches = subst (λ left. Reaches most (had ++ piece) before left) rests reaches;
      asks = record { some = some_more reading.read rest some; within = came_within most kept text rest reading.read reading.is reading.within new };
    }

-- more of the frame was read
pub reads_on : (most : ℕ) (kept text rest took left longer : List ℕ) → IsReading most kept text rest → (text ≡ [] → IsTooLong most rest → ⊥) → rest ≡ took ++ left → longer ≡ text ++ took → IsReading most kept longer left
reads_on most kept text rest took left longer reading new is longer_is =
    let whole : (reading.read ++ took) ++ left ≡ reading.read ++ rest = append_assoc reading.read took left ∙ ap (λ more. reading.read ++ more) (sym is) in
    record {
      read = reading.read ++ took;
      is = longer_is ∙ (ap (λ front. front ++ took) reading.is ∙ append_assoc kept reading.read took);
      within = λ none some long. came_within most kept text rest reading.read reading.is reading.within new none (subst (λ bytes. IsTooLong most bytes) whole long);
    }

-- nothing of a frame is there
pub reads_none : (most : ℕ) (rest : List ℕ) → IsReading most [] [] rest
reads_none most rest = record { read = []; is = refl; within = λ none some. absurd (some refl) }

-- nor after a frame more
pub none_after : (frames : Frames) (frame had : List ℕ) → kept_after (frames ++ frame ∷ []) had ≡ []
none_after [] frame had = refl
none_after (first ∷ frames) frame had = refl

-- as a piece begins, what was there is kept
pub reads_first : (most : ℕ) (had piece : List ℕ) → IsReading most had had piece
reads_first most had piece = record { read = []; is = sym (append-nil had); within = λ none some. absurd (some refl) }

-- nothing is kept after a frame that was pushed
pub none_kept : (before after : Vec (Vec ℕ Global) Global) (frame : Vec ℕ Global) (had : List ℕ) → after.items ≡ before.items ++ frame ∷ [] → kept_after (frames_in after) had ≡ []
none_kept before after frame had is = ap (λ frames. kept_after frames had) (frames_more before after frame is) ∙ none_after (frames_in before) frame.items had

pub reads_again : (most : ℕ) (kept text rest : List ℕ) → kept ≡ [] → text ≡ [] → IsReading most kept text rest
reads_again most kept text rest none nothing =
    subst (λ front. IsReading most front text rest) (sym none) (subst (λ part. IsReading most [] part rest) (sym nothing) (reads_none most rest))

-- the same frames were given
pub asks_still : (most : ℕ) (had piece : List ℕ) (before after : Vec (Vec ℕ Global) Global) → after.items ≡ before.items → AsksMemory most had piece (frames_in before) → AsksMemory most had piece (frames_in after)
asks_still most had piece before after same asks = subst (λ frames. AsksMemory most had piece frames) (ap (map (λ f. f.items)) (sym same)) asks

-- as a piece begins no frame was given
pub reads_at_first : (most : ℕ) (had piece : List ℕ) (frames : Vec (Vec ℕ Global) Global) → frames.items ≡ [] → IsReading most (kept_after (frames_in frames) had) had piece
reads_at_first most had piece frames none =
    let given : frames_in frames ≡ [] = ap (map (λ f. f.items)) none in
    subst (λ fs. IsReading most (kept_after fs had) had piece) (sym given) (reads_first most had piece)

-- what is so anyway is so of a fault
pub asks_if : {A : Type 0} {P : Type 0} (result : Result A StreamFault) → P → IfErr result (λ e. e ≡ NoMemory → P)
asks_if (Ok a) holds = tt
asks_if (Err e) holds = λ is. holds
