-- A frame behind its length, and what stands at the front of a text.
use Rattle.std.proofs.Common.{◌≡◌, ℕ, ◌+◌, ◌<◌, ◌≤◌, ◌^◌, List, [], ◌∷◌, ◌++◌, length, sym, ap, ◌∙◌, append_assoc, arith}
use Rattle.std.proofs.lemmas.List.{append-nil, length-append}
use Rattle.std.specs.Int.{to_be_bytes, w32}
use Rattle.zq_fields.specs.Fields.{number_field}
use Rattle.zq_fields.proofs.Again.{u32_read}
use Rattle.zq_wire.specs.Framed.{framed}

-- a frame of this length
pub framed_of : (size : ℕ) (frame : List ℕ) → length frame ≡ size → framed frame ≡ to_be_bytes w32 size ++ frame
unfolding framed
framed_of size frame is = ap (λ n. to_be_bytes w32 n ++ frame) is

pub framed_length : (frame : List ℕ) → length (framed frame) ≡ length frame + 4
unfolding framed
framed_length frame = length-append (to_be_bytes w32 (length frame)) frame ∙ omega arith

-- a length, a frame of it and more bytes
pub framed_found : (size : ℕ) (bytes rest frame after : List ℕ) → bytes ≡ to_be_bytes w32 size ++ rest → rest ≡ frame ++ after → length frame ≡ size
    → bytes ≡ framed frame ++ after
framed_found size bytes rest frame after front back is =
    front ∙ (ap (λ rest. to_be_bytes w32 size ++ rest) back
    ∙ (sym (append_assoc (to_be_bytes w32 size) frame after) ∙ ap (λ bytes. bytes ++ after) (sym (framed_of size frame is))))

-- four bytes that begin with a length are the length
pub only_length : (size : ℕ) (head rest : List ℕ) → length head ≤ 4 → head ≡ to_be_bytes w32 size ++ rest → head ≡ to_be_bytes w32 size
only_length size head [] few is = is ∙ append-nil (to_be_bytes w32 size)
only_length size head (b ∷ rest) few is =
    let more = ap length is ∙ length-append (to_be_bytes w32 size) (b ∷ rest) in
    absurd (omega arith)

-- two lengths at the front of one text are one
pub same_length : (size other : ℕ) (rest left : List ℕ) → size < 2 ^ 32 → other < 2 ^ 32 → to_be_bytes w32 size ++ rest ≡ to_be_bytes w32 other ++ left
    → (size ≡ other) × (rest ≡ left)
same_length size other rest left fits holds same =
    let read = sym (u32_read size rest fits) ∙ (ap (number_field w32) same ∙ u32_read other left holds) in
    let pair : ◌≡◌ {A = ℕ × List ℕ} (size, rest) (other, left) = cc in
    (ap (λ x. x.0) pair, ap (λ x. x.1) pair)
