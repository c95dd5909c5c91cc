-- A text is read in one way.
use Rattle.std.proofs.Common.{◌≡◌, ℕ, ◌<◌, ◌≤◌, ◌^◌, List, [], ◌∷◌, ◌++◌, length, take, drop, refl, sym, ap, subst, ◌∙◌, append_assoc, arith, inl, inr}
use Rattle.std.specs.Prelude.{All}
use Rattle.std.specs.List.{flat_map}
use Rattle.std.specs.Int.{to_be_bytes, w32}
use Rattle.std.proofs.lemmas.List.{append-nil, drop_at, length-append, take_at}
use Rattle.std.proofs.lemmas.List.Elements.{All-head, All-tail}
use Rattle.zq_wire.specs.Framed.{IsTooLong, IsUnfinished, framed}
use Rattle.zq_wire.specs.Stream.{Breaks, Frames, Reaches, Splits}
use Rattle.zq_wire.proofs.Framed.{framed_of, same_length}

abbrev Small : ℕ → List ℕ → Type 0
Small most frame = length frame ≤ most

-- a frame and more bytes, by its length
spread : (frame after : List ℕ) → framed frame ++ after ≡ to_be_bytes w32 (length frame) ++ (frame ++ after)
spread frame after =
    ap (λ front. front ++ after) (framed_of (length frame) frame refl) ∙ append_assoc (to_be_bytes w32 (length frame)) frame after

-- two frames at the front of one text are one
same_front : (most : ℕ) (frame other after left : List ℕ) → most < 2 ^ 32 → length frame ≤ most → length other ≤ most → framed frame ++ after ≡ framed other ++ left
    → (frame ≡ other) × (after ≡ left)
same_front most frame other after left bound small slight same =
    let lengths = same_length (length frame) (length other) (frame ++ after) (other ++ left) (omega arith) (omega arith) (sym (spread frame after) ∙ (same ∙ spread other left)) in (
      sym (take_at frame after (length frame) refl) ∙ (ap (λ bytes. take (length frame) bytes) lengths.1 ∙ take_at other left (length frame) (sym lengths.0)),
      sym (drop_at frame after (length frame) refl) ∙ (ap (λ bytes. drop (length frame) bytes) lengths.1 ∙ drop_at other left (length frame) (sym lengths.0)),
    )

-- no frame within the most stands at the front
abbrev pub IsStuck : ℕ → List ℕ → Type 0
IsStuck most bytes = (frame after : List ℕ) → length frame ≤ most → bytes ≡ framed frame ++ after → ⊥

unfinished_stuck : (most : ℕ) (rest : List ℕ) → most < 2 ^ 32 → IsUnfinished most rest → IsStuck most rest
unfinished_stuck most rest bound (inl few) = λ frame after small is.
    let longer = ap length (is ∙ spread frame after) ∙ length-append (to_be_bytes w32 (length frame)) (frame ++ after) in
    absurd (omega arith)
unfinished_stuck most rest bound (inr cut) = λ frame after small is.
    let within = cut.small in
    let short = cut.short in
    let lengths = same_length cut.size (length frame) cut.body (frame ++ after) (omega arith) (omega arith) (sym cut.begins ∙ (is ∙ spread frame after)) in
    let longer = ap length lengths.1 ∙ length-append frame after in
    absurd (omega (arith, lengths.0))

long_stuck : (most : ℕ) (rest : List ℕ) → IsTooLong most rest → IsStuck most rest
long_stuck most rest long = λ frame after small is.
    let fits = long.fits in
    let above = long.long in
    let lengths = same_length long.size (length frame) long.after (frame ++ after) fits (omega arith) (sym long.begins ∙ (is ∙ spread frame after)) in
    absurd (omega (arith, lengths.0))

-- what is too long is not unfinished
long_finished : (most : ℕ) (rest : List ℕ) → most < 2 ^ 32 → IsTooLong most rest → IsUnfinished most rest → ⊥
long_finished most rest bound long (inl few) =
    let longer = ap length long.begins ∙ length-append (to_be_bytes w32 long.size) long.after in
    absurd (omega arith)
long_finished most rest bound long (inr cut) =
    let within = cut.small in
    let above = long.long in
    let lengths = same_length long.size cut.size long.after cut.body long.fits (omega arith) (sym long.begins ∙ cut.begins) in
    absurd (omega (arith, lengths.0))

once : (most : ℕ) (all others : Frames) (rest left : List ℕ) → most < 2 ^ 32 → All (Small most) all → All (Small most) others → flat_map framed all ++ rest ≡ flat_map framed others ++ left
    → IsStuck most rest → IsStuck most left → (all ≡ others) × (rest ≡ left)
once most [] [] rest left bound small slight same stuck ends = (refl, same)
once most [] (other ∷ others) rest left bound small slight same stuck ends =
    absurd (stuck other (flat_map framed others ++ left) (All-head (Small most) other others slight) (same ∙ append_assoc (framed other) (flat_map framed others) left))
once most (first ∷ all) [] rest left bound small slight same stuck ends =
    absurd (ends first (flat_map framed all ++ rest) (All-head (Small most) first all small) (sym same ∙ append_assoc (framed first) (flat_map framed all) rest))
once most (first ∷ all) (other ∷ others) rest left bound small slight same stuck ends =
    let front = same_front most first other (flat_map framed all ++ rest) (flat_map framed others ++ left) bound (All-head (Small most) first all small) (All-head (Small most) other others slight)
    (sym (append_assoc (framed first) (flat_map framed all) rest) ∙ (same ∙ append_assoc (framed other) (flat_map framed others) left)) in
    let after = once most all others rest left bound (All-tail (Small most) first all small) (All-tail (Small most) other others slight) front.1 stuck ends in
    (rw (front.0, after.0) refl, after.1)

pub reaches_once : (most : ℕ) (bytes rest left : List ℕ) (all others : Frames) → most < 2 ^ 32 → Reaches most bytes all rest → Reaches most bytes others left → IsStuck most rest → IsStuck most left
    → (all ≡ others) × (rest ≡ left)
reaches_once most bytes rest left all others bound reaches comes = once most all others rest left bound reaches.small comes.small (sym reaches.spelled ∙ comes.spelled)

pub splits_once : (most : ℕ) (bytes rest left : List ℕ) (all others : Frames) → most < 2 ^ 32 → Splits most bytes all rest → Splits most bytes others left
    → (all ≡ others) × (rest ≡ left)
splits_once most bytes rest left all others bound splits divides =
    reaches_once most bytes rest left all others bound splits.reaches divides.reaches (unfinished_stuck most rest bound splits.unfinished) (unfinished_stuck most left bound divides.unfinished)

pub breaks_once : (most : ℕ) (bytes : List ℕ) (all others : Frames) → most < 2 ^ 32 → Breaks most bytes all → Breaks most bytes others → all ≡ others
breaks_once most bytes all others bound breaks stops =
    (reaches_once most bytes breaks.rest stops.rest all others bound breaks.reaches stops.reaches (long_stuck most breaks.rest breaks.long) (long_stuck most stops.rest stops.long)).0

pub breaks_alone : (most : ℕ) (bytes rest : List ℕ) (all others : Frames) → most < 2 ^ 32 → Breaks most bytes all → Splits most bytes others rest → ⊥
breaks_alone most bytes rest all others bound breaks splits =
    let same = reaches_once most bytes breaks.rest rest all others bound breaks.reaches splits.reaches (long_stuck most breaks.rest breaks.long) (unfinished_stuck most rest bound splits.unfinished) in
    long_finished most rest bound (subst (λ rest. IsTooLong most rest) same.1 breaks.long) splits.unfinished

pub written_splits : (most : ℕ) (frames : Frames) → All (Small most) frames → Splits most (flat_map framed frames) frames []
written_splits most frames small =
    record { reaches = record { spelled = sym (append-nil (flat_map framed frames)); small = small }; unfinished = inl (omega arith) }
