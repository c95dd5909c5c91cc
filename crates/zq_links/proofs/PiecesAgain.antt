-- Pieces that were written are read again.

use Rattle.std.proofs.Common.{ap, append_assoc, inl, inr, List, None, Ok, Option, refl, Some, sym, true, [], ℕ, ◌++◌, ◌∙◌, ◌∷◌, ◌≡◌}
use Rattle.std.specs.Prelude.{Result, slice_get}
use Rattle.zq_links.proofs.StepsAgain.{step_again}
use Rattle.zq_links.specs.About.{topic_at}
use Rattle.zq_links.specs.Answer.{Fails}
use Rattle.zq_links.specs.PieceReading.{IsOfMemory, front_at, newest_at, piece_at, piece_of}
use Rattle.zq_links.specs.Pieces.{IsPiece, KIND, is_piece, piece_bytes}
use Rattle.zq_links.specs.Reading.{of_state}
use Rattle.zq_links.specs.Steps.{IsStep, step_at, step_bytes}
use Rattle.zq_links.specs.declared.frame_fault.FrameFault.{FrameFault}
use Rattle.zq_links.specs.declared.frame_fault.FrameFault.TheVariants as frame
use Rattle.zq_links.specs.declared.piece.Piece.{Piece}
use Rattle.zq_links.specs.declared.spot.Spot.{Spot}
use Rattle.zq_merge.proofs.AgainStates.{same_again, state_again}
use Rattle.zq_merge.specs.Answer as merge
use Rattle.zq_merge.specs.Refused.{IsRefusedIn}
use Rattle.zq_merge.specs.State.{state_at, state_spelling}
use Rattle.zq_merge.specs.declared.fault.StateFault.{StateFault}
use Rattle.zq_merge.specs.declared.fault.StateFault.TheVariants.{NoMemory}
use Rattle.zq_merge.specs.declared.version.Version.{Version}
use Rattle.zq_merge.specs.declared.version.Version.TheVariants.{One, Three, Two}
use Rattle.zq_shard.specs.Shard.{HeapImage}

-- ---- what stands before the state

front_of : (step : ℕ × ℕ × Spot) (bytes rest : List ℕ) → step_at bytes ≡ Ok (step, rest) →
    front_at (KIND ∷ bytes) ≡ Ok (step, rest)
front_of step bytes rest e = rw e refl

front_again : (life number : ℕ) (next : Spot) (rest : List ℕ) → IsStep life number next →
    front_at (KIND ∷ (step_bytes life number next ++ rest)) ≡ Ok ((life, number, next), rest)
front_again life number next rest sound =
    front_of (life, number, next) (step_bytes life number next ++ rest) rest
    (step_again life number next rest sound)

-- ---- the state

-- a state that begins as one of the newest version is one
pub newest_found : (v : Version) (s : HeapImage) (bytes : List ℕ) → slice_get bytes 0 ≡ Some 3 →
    bytes ≡ state_spelling v s → bytes ≡ state_spelling Three s
newest_found One s bytes first is =
    let both : ◌≡◌ {A = Option ℕ} (Some 1) (Some 3) = sym (ap (λ b. slice_get b 0) is) ∙ first in
    absurd cc
newest_found Two s bytes first is =
    let both : ◌≡◌ {A = Option ℕ} (Some 2) (Some 3) = sym (ap (λ b. slice_get b 0) is) ∙ first in
    absurd cc
newest_found Three s bytes first is = is

pub part_read : (s : HeapImage) (bytes : List ℕ) → newest_at bytes ≡ state_at bytes →
    state_at bytes ≡ Ok s → of_state (newest_at bytes) ≡ Ok s
part_read s bytes newest e = ap of_state (newest ∙ e)

-- there was no memory for the state, or it is at fault
pub part_fails : (bytes : List ℕ) (fault : StateFault) → merge.Fails fault (state_at bytes) →
    (fault ≡ NoMemory → IsRefusedIn bytes) → newest_at bytes ≡ state_at bytes →
    Fails (λ f. IsRefusedIn bytes × (f ≡ frame.State NoMemory)) (frame.State fault)
    (of_state (newest_at bytes))
part_fails bytes fault (inl none) refused newest = inl (refused none, ap frame.State none)
part_fails bytes fault (inr e) refused newest = inr (ap of_state (newest ∙ e))

newest_again : (s : HeapImage) → state_at (state_spelling Three s) ≡ Ok s →
    newest_at (state_spelling Three s) ≡ Ok s
newest_again s e = e

-- ---- pieces

piece_by : (step : ℕ × ℕ × Spot) (s : HeapImage) (b0 b1 : List ℕ) → front_at b0 ≡ Ok (step, b1) →
    newest_at b1 ≡ Ok s → piece_at b0 ≡ Ok (piece_of step s)
piece_by step s b0 b1 front part = rw (front, part) refl

pub piece_fails : (step : ℕ × ℕ × Spot) (bytes rest : List ℕ) (fault : FrameFault) →
    front_at bytes ≡ Ok (step, rest) →
    Fails (λ f. IsRefusedIn rest × (f ≡ frame.State NoMemory)) fault (of_state (newest_at rest)) →
    Fails (IsOfMemory bytes) fault (piece_at bytes)
piece_fails step bytes rest fault front (inl none) = inl (step, rest, front, none.0, none.1)
piece_fails step bytes rest fault front (inr e) = inr (rw (front, e) refl)

-- the bytes of a piece are read as it, where those of its state are read as that
pub piece_read : (p : Piece) → IsStep p.life p.number p.next →
    state_at (state_spelling Three p.part) ≡ Ok p.part → piece_at (piece_bytes p) ≡ Ok p
unfolding piece_bytes
piece_read p sound part =
    let state = state_spelling Three p.part in
    piece_by (p.life, p.number, p.next) p.part
    (KIND ∷ (step_bytes p.life p.number p.next ++ state)) state
    (front_again p.life p.number p.next state sound) (newest_again p.part part)

pub piece_again : (p : Piece) → IsPiece p → piece_at (piece_bytes p) ≡ Ok p
piece_again p sound = piece_read p sound.step (state_again Three p.part sound.part (tt, tt))

-- what stands before the state, of a piece that the bytes begin with
piece_front : (p : Piece) (x : List ℕ) → IsPiece p →
    front_at (piece_bytes p ++ x)
    ≡ Ok ((p.life, p.number, p.next), state_spelling Three p.part ++ x)
unfolding piece_bytes
piece_front p x sound =
    let state = state_spelling Three p.part in
    ap (λ bytes. front_at (KIND ∷ bytes)) (append_assoc (step_bytes p.life p.number p.next) state x)
    ∙ front_again p.life p.number p.next (state ++ x) sound.step

-- equal bytes that begin with spellings begin with the same one
pub piece_same : (p q : Piece) (x y : List ℕ) → IsPiece p → IsPiece q →
    piece_bytes p ++ x ≡ piece_bytes q ++ y → (p ≡ q) × (x ≡ y)
piece_same p q x y sound_p sound_q same =
    let a : (ℕ × ℕ × Spot) × List ℕ = ((p.life, p.number, p.next), state_spelling Three p.part ++ x)
    in
    let b : (ℕ × ℕ × Spot) × List ℕ = ((q.life, q.number, q.next), state_spelling Three q.part ++ y)
    in
    let both : ◌≡◌ {A = Result ((ℕ × ℕ × Spot) × List ℕ) FrameFault} (Ok a) (Ok b) = sym
    (piece_front p x sound_p) ∙ (ap front_at same ∙ piece_front q y sound_q) in
    let pair : a ≡ b = cc in
    let parts = same_again Three Three p.part q.part x y sound_p.part (tt, tt) sound_q.part (tt, tt)
    (λ i. (pair i).1) in
    (λ i. piece_of ((pair i).0) (parts.1.0 i), parts.1.1)

-- ---- what is written

pub piece_written : (p : Piece) (state none b0 b1 : List ℕ) → state ≡ state_spelling Three p.part →
    none ≡ [] → b0 ≡ none ++ KIND ∷ step_bytes p.life p.number p.next → b1 ≡ b0 ++ state →
    b1 ≡ piece_bytes p
unfolding piece_bytes
piece_written p state none b0 b1 spelled empty front rest =
    let step = KIND ∷ step_bytes p.life p.number p.next in
    let before : b0 ≡ step = front ∙ ap (λ b. b ++ step) empty in
    rest ∙ (λ i. before i ++ spelled i)

pub written_again : (p : Piece) (state bytes : List ℕ) → IsStep p.life p.number p.next →
    state ≡ state_spelling Three p.part → state_at state ≡ Ok p.part → bytes ≡ piece_bytes p →
    piece_at bytes ≡ Ok p
written_again p state bytes sound spelled again is =
    ap piece_at is ∙ piece_read p sound (ap state_at (sym spelled) ∙ again)

-- ---- what begins as a piece

pub piece_begins : (bytes : List ℕ) (p : Piece) → bytes ≡ piece_bytes p → is_piece bytes ≡ true
unfolding piece_bytes
piece_begins bytes p is = ap is_piece is

-- it is about nothing
pub piece_about : (bytes : List ℕ) (p : Piece) → bytes ≡ piece_bytes p → topic_at bytes ≡ None
unfolding piece_bytes
piece_about bytes p is = ap topic_at is
