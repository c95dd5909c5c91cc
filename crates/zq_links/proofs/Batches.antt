-- Frames of operations by differences.

use Rattle.std.proofs.Common.{ap, false, length, List, map, Option, refl, Some, sym, [], ℕ, ◌++◌, ◌<◌, ◌∙◌, ◌∷◌, ◌≡◌, ◌^◌}
use Rattle.std.proofs.lemmas.List.{length-map}
use Rattle.std.specs.Int.{to_be_bytes, w32}
use Rattle.std.specs.List.{flat_map}
use Rattle.zq_delta.specs.Spelling.{op_spelling}
use Rattle.zq_delta.specs.declared.version.Version.TheVariants.{Two}
use Rattle.zq_dots.specs.Placed.{Placed}
use Rattle.zq_fields.proofs.Again.{u32_read}
use Rattle.zq_fields.specs.Fields.{number_field}
use Rattle.zq_links.specs.Batch.{is_batch}
use Rattle.zq_links.specs.Frame.{Frame, OfOps}
use Rattle.zq_links.specs.Spelling.{HaveIn, IsSpelled, OpsIn, Spelled, StateIn, frame_spelling, newest, newest_op, op_bytes, ops_bytes}
use Rattle.zq_merge.specs.declared.version.Version.TheVariants as state

-- no frame of another kind begins as one of these
spelled_other : (s : Spelled) → is_batch (frame_spelling s) ≡ false
spelled_other (HaveIn state.One have) = refl
spelled_other (HaveIn state.Two have) = refl
spelled_other (HaveIn state.Three have) = refl
spelled_other (OpsIn ops) = refl
spelled_other (StateIn v s) = refl

pub other_frame : (f : Frame) (bytes : List ℕ) → IsSpelled f bytes → is_batch bytes ≡ false
other_frame f bytes is = ap is_batch is.3 ∙ spelled_other is.0

-- ---- the operations of a frame of kind 2

each_is : (ops : List Placed) → flat_map op_bytes (map newest_op ops) ≡ flat_map (op_spelling Two) ops
each_is [] = refl
each_is (o ∷ ops) = ap (λ bytes. op_spelling Two o ++ bytes) (each_is ops)

pub ops_are : (ops : List Placed) → frame_spelling (newest (OfOps ops)) ≡ 2 ∷ (to_be_bytes w32 (length ops) ++ flat_map (op_spelling Two) ops)
unfolding ops_bytes
ops_are ops =
    ap (λ n. 2 ∷ (to_be_bytes w32 n ++ flat_map op_bytes (map newest_op ops))) (length-map ops newest_op)
    ∙ ap (λ bytes. 2 ∷ (to_be_bytes w32 (length ops) ++ bytes)) (each_is ops)

-- the bytes behind the kind
behind : (a : ℕ) (x y : List ℕ) (b : ℕ) → a ∷ x ≡ b ∷ y → (a ≡ b) × (x ≡ y)
behind a x y b same = (cc, cc)

-- what was read behind the kind is their number, and their spellings
pub count_is : (kind : ℕ) (ops : List Placed) (bytes rest : List ℕ) → length ops < 2 ^ 32 → bytes ≡ frame_spelling (newest (OfOps ops)) → bytes ≡ kind ∷ rest → (kind ≡ 2) × (number_field w32 rest ≡ Some (length ops, flat_map (op_spelling Two) ops))
count_is kind ops bytes rest few is read =
    let both : kind ∷ rest ≡ 2 ∷ (to_be_bytes w32 (length ops) ++ flat_map (op_spelling Two) ops) = sym read ∙ (is ∙ ops_are ops) in
    let parts = behind kind rest (to_be_bytes w32 (length ops) ++ flat_map (op_spelling Two) ops) 2 both in
    (parts.0, ap (number_field w32) parts.1 ∙ u32_read (length ops) (flat_map (op_spelling Two) ops) few)

pub some_bytes : (ops : List Placed) (bytes : List ℕ) → bytes ≡ frame_spelling (newest (OfOps ops)) → bytes ≡ [] → ⊥
some_bytes ops bytes is none = let both : [] ≡ 2 ∷ (to_be_bytes w32 (length ops) ++ flat_map (op_spelling Two) ops) = sym none ∙ (is ∙ ops_are ops) in cc

-- the number and the spellings that were read are these
pub pair_is : (n m : ℕ) (x y : List ℕ) (read : Option (ℕ × List ℕ)) → read ≡ Some (n, x) → read ≡ Some (m, y) → (n ≡ m) × (x ≡ y)
pair_is n m x y read first second =
    let p : ℕ × List ℕ = (n, x) in
    let q : ℕ × List ℕ = (m, y) in
    let both : ◌≡◌ {A = Option (ℕ × List ℕ)} (Some p) (Some q) = sym first ∙ second in
    let pair : p ≡ q = cc in
    (λ i. (pair i).0, λ i. (pair i).1)
