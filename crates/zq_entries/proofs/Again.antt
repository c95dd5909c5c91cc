-- Entries that were written are read again.

use Rattle.std.proofs.Common.{ap, append_assoc, append-nil, arith, Err, inl, inr, length, List, None, Ok, refl, Some, suc, sym, [], ℕ, ◌++◌, ◌-◌, ◌+◌, ◌<◌, ◌^◌, ◌∙◌, ◌∷◌, ◌≡◌}
use Rattle.std.proofs.lemmas.List.Elements.{All-head, All-tail}
use Rattle.std.specs.Int.{to_be_bytes, w64}
use Rattle.std.specs.List.{flat_map}
use Rattle.std.specs.Prelude.{All, IfOk, MatchResult, Result}
use Rattle.zq_entries.specs.Answer.{Answers}
use Rattle.zq_batch.proofs.Batches.{batch_again}
use Rattle.zq_batch.specs.Reading.{batch_at}
use Rattle.zq_dots.specs.Placed.{Placed}
use Rattle.zq_entries.proofs.Rounds.{batches_more, batches_none}
use Rattle.zq_entries.specs.Entry.{Entry, FOLDER, IsBatch, IsEntry, IsRound, IsSealed, IsStart, MOST_BATCHES, OfPiece, OfRest, OfRound, OfSealed, OfStart, Start}
use Rattle.zq_entries.specs.Parts.{block_at, count_at, folder_at, identity_at, sealed_at}
use Rattle.zq_entries.specs.Reading.{batch_in, batches_at, body_at, entry_at, kind_at, of_part, round_at, start_at}
use Rattle.zq_entries.specs.Spelling.{block, entry_bytes, part_bytes, round_bytes, sealed_bytes, start_bytes}
use Rattle.zq_entries.specs.Together.{batch_of, heap_of, heaps_of}
use Rattle.zq_entries.specs.declared.fault.EntryFault.{EntryFault}
use Rattle.zq_entries.specs.declared.kind.Kind.{Kind}
use Rattle.zq_entries.specs.declared.kind.Kind.TheVariants as kind
use Rattle.zq_entries.specs.declared.sealed.Sealed.{Sealed}
use Rattle.zq_fields.proofs.Again.{bytes_read, u64_read}
use Rattle.zq_fields.proofs.Counters.{limits}
use Rattle.zq_fields.proofs.Entries.{sparse_again}
use Rattle.zq_fields.proofs.PartsAgain.{byte_in_again, heap_read, number_in_again, rule_read}
use Rattle.zq_fields.specs.Fields.{bytes_field, number_field}
use Rattle.zq_fields.specs.Reading.{byte_in, heap_at, number_in, rule_at, sparse_at}
use Rattle.zq_fields.specs.Spelling.{rule_byte, sparse}
use Rattle.zq_links.specs.PieceReading.{piece_at}
use Rattle.zq_links.specs.Pieces.{IsPiece, piece_bytes}
use Rattle.zq_links.specs.Steps.{step_bytes}
use Rattle.zq_merge.specs.State.{state_spelling}
use Rattle.zq_merge.specs.declared.version.Version.TheVariants.{Three}
use Rattle.zq_links.specs.declared.piece.Piece.{Piece}
use Rattle.zq_model.specs.Sets.{SITES}

-- ---- a start

folder_again : (folder rest : List ℕ) → length folder ≡ FOLDER →
    folder_at (folder ++ rest) ≡ Ok (folder, rest)
folder_again folder rest size = rw (bytes_read FOLDER folder rest size) refl

identity_of : (whole : ℕ) (s : Start) (b0 b1 b2 b3 b4 b5 : List ℕ) →
    byte_in whole 0 SITES b0 ≡ Ok (s.site, b1) → byte_in whole 1 17 b1 ≡ Ok (s.heaps, b2) →
    rule_at whole b2 ≡ Ok (s.rule, b3) → folder_at b3 ≡ Ok (s.folder, b4) →
    number_in whole 1 (2 ^ 64 - 1) b4 ≡ Ok (s.number, b5) → identity_at whole b0 ≡ Ok (s, b5)
unfolding identity_at
identity_of whole s b0 b1 b2 b3 b4 b5 site heaps rule folder number =
    rw (site, heaps, rule, folder, number) refl

-- what follows the format
identity_bytes : Start → List ℕ
identity_bytes s =
    s.site ∷ s.heaps ∷ rule_byte s.rule ∷ (s.folder ++ to_be_bytes w64 s.number)

identity_again : (whole : ℕ) (s : Start) (rest : List ℕ) → IsStart s →
    identity_at whole (identity_bytes s ++ rest) ≡ Ok (s, rest)
unfolding identity_bytes
identity_again whole s rest sound =
    let number = to_be_bytes w64 s.number in
    let b4 = number ++ rest in
    let b3 = s.folder ++ b4 in
    let b2 = rule_byte s.rule ∷ b3 in
    let b1 = s.heaps ∷ b2 in
    let some = sound.heaps.0 in
    let few = sound.heaps.1 in
    let most = sound.number in
    ap (λ b. identity_at whole (s.site ∷ s.heaps ∷ rule_byte s.rule ∷ b))
    (append_assoc s.folder number rest)
    ∙ identity_of whole s (s.site ∷ b1) b1 b2 b3 b4 rest
    (byte_in_again whole 0 SITES s.site b1 (omega arith) sound.site)
    (byte_in_again whole 1 17 s.heaps b2 (omega arith) (omega arith)) (rule_read whole s.rule b3)
    (folder_again s.folder b4 sound.folder)
    (number_in_again whole 1 (2 ^ 64 - 1) s.number rest sound.some (omega arith) (omega arith))

start_by : (whole : ℕ) (s : Start) (bytes rest : List ℕ) →
    identity_at whole bytes ≡ Ok (s, rest) → start_at whole (1 ∷ bytes) ≡ Ok (s, rest)
start_by whole s bytes rest e = rw e refl

start_again : (whole : ℕ) (s : Start) (rest : List ℕ) → IsStart s →
    start_at whole (start_bytes s ++ rest) ≡ Ok (s, rest)
unfolding start_bytes identity_bytes
start_again whole s rest sound =
    start_by whole s (identity_bytes s ++ rest) rest (identity_again whole s rest sound)

-- ---- a round

block_of : (n : ℕ) (x b0 b1 b2 : List ℕ) → number_field w64 b0 ≡ Some (n, b1) →
    bytes_field n b1 ≡ Some (x, b2) → block_at b0 ≡ Ok (x, b2)
unfolding block_at
block_of n x b0 b1 b2 count bytes = rw (count, bytes) refl

block_again : (x rest : List ℕ) → length x < 2 ^ 64 → block_at (block x ++ rest) ≡ Ok (x, rest)
unfolding block
block_again x rest short =
    let size = to_be_bytes w64 (length x) in
    ap block_at (append_assoc size x rest)
    ∙ block_of (length x) x (size ++ (x ++ rest)) (x ++ rest) rest
    (u64_read (length x) (x ++ rest) short) (bytes_read (length x) x rest refl)

batch_of_bytes : (whole : ℕ) (ops : List Placed) (x b0 b1 : List ℕ) → block_at b0 ≡ Ok (x, b1) →
    batch_at x ≡ Ok ops → batch_in whole b0 ≡ Ok (ops, b1)
unfolding batch_in
batch_of_bytes whole ops x b0 b1 bytes batch = rw (bytes, batch) refl

batch_in_again : (whole : ℕ) (ops : List Placed) (rest : List ℕ) → IsBatch ops →
    batch_in whole (part_bytes ops ++ rest) ≡ Ok (ops, rest)
batch_in_again whole ops rest sound =
    batch_of_bytes whole ops (batch_of ops) (part_bytes ops ++ rest) rest
    (block_again (batch_of ops) rest sound.short)
    (batch_again (heaps_of ops) (heap_of ops) ops sound.ranged sound.together)

batches_again : (whole : ℕ) (before batches : List (List Placed)) (rest : List ℕ) →
    All IsBatch batches →
    batches_at whole (length batches) before (flat_map part_bytes batches ++ rest)
    ≡ Ok (before ++ batches, rest)
batches_again whole before [] rest sound =
    batches_none whole before rest ∙ ap (λ b. Ok (b, rest)) (sym (append-nil before))
batches_again whole before (ops ∷ batches) rest sound =
    let later = flat_map part_bytes batches ++ rest in
    let first = batch_in_again whole ops later (All-head IsBatch ops batches sound) in
    ap (batches_at whole (suc (length batches)) before)
    (append_assoc (part_bytes ops) (flat_map part_bytes batches) rest)
    ∙ (batches_more whole (length batches) before ops (part_bytes ops ++ later) later first
    ∙ (batches_again whole (before ++ ops ∷ []) batches rest (All-tail IsBatch ops batches sound)
    ∙ ap (λ b. Ok (b, rest)) (append_assoc before (ops ∷ []) batches)))

round_by : (whole n : ℕ) (batches : List (List Placed)) (b0 b1 b2 : List ℕ) →
    count_at whole b0 ≡ Ok (n, b1) → batches_at whole n [] b1 ≡ Ok (batches, b2) →
    round_at whole b0 ≡ Ok (batches, b2)
round_by whole n batches b0 b1 b2 count each = rw count each

round_again : (whole : ℕ) (batches : List (List Placed)) (rest : List ℕ) → IsRound batches →
    round_at whole (round_bytes batches ++ rest) ≡ Ok (batches, rest)
unfolding round_bytes
round_again whole batches rest sound =
    let b1 = flat_map part_bytes batches ++ rest in
    let few = sound.few in
    round_by whole (length batches) batches (length batches ∷ b1) b1 rest
    (byte_in_again whole 1 (MOST_BATCHES + 1) (length batches) b1 sound.some (omega arith))
    (batches_again whole [] batches rest sound.each)

-- ---- that all pieces came

sealed_from : (whole : ℕ) (w : Sealed) (b0 b1 b2 : List ℕ) → heap_at whole b0 ≡ Ok (w.heap, b1) →
    sparse_at whole None b1 ≡ Ok (w.vector, b2) → sealed_at whole b0 ≡ Ok (w, b2)
unfolding sealed_at
sealed_from whole w b0 b1 b2 heap vector = rw (heap, vector) refl

sealed_again : (whole : ℕ) (w : Sealed) (rest : List ℕ) → IsSealed w →
    sealed_at whole (sealed_bytes w ++ rest) ≡ Ok (w, rest)
unfolding sealed_bytes
sealed_again whole w rest sound =
    let b1 = sparse w.vector ++ rest in
    sealed_from whole w (w.heap.heaps ∷ (w.heap.heap ∷ b1)) b1 rest
    (heap_read whole w.heap b1 sound.heaps sound.heap)
    (sparse_again whole None w.vector rest sound.vector (limits w.vector sound.vector))

-- ---- entries

-- nothing follows what follows the kind
alone : {X : Type 0} (read : List ℕ → X) (body : List ℕ) (x : X) → read (body ++ []) ≡ x →
    read body ≡ x
alone read body x e = ap read (sym (append-nil body)) ∙ e

start_body : (all : List ℕ) (s : Start) (bytes : List ℕ) →
    start_at (length all) bytes ≡ Ok (s, []) → body_at kind.Start all bytes ≡ Ok (OfStart s)
start_body all s bytes e = rw e refl

round_body : (all : List ℕ) (batches : List (List Placed)) (bytes : List ℕ) →
    round_at (length all) bytes ≡ Ok (batches, []) →
    body_at kind.Round all bytes ≡ Ok (OfRound batches)
round_body all batches bytes e = rw e refl

sealed_body : (all : List ℕ) (w : Sealed) (bytes : List ℕ) →
    of_part (sealed_at (length all) bytes) ≡ Ok (w, []) →
    body_at kind.Sealed all bytes ≡ Ok (OfSealed w)
sealed_body all w bytes e = rw e refl

piece_body : (all : List ℕ) (p : Piece) (bytes : List ℕ) → piece_at all ≡ Ok p →
    body_at kind.Piece all bytes ≡ Ok (OfPiece p)
piece_body all p bytes e = rw e refl

piece_by : (p : Piece) (bytes : List ℕ) → piece_at (10 ∷ bytes) ≡ Ok p →
    entry_at (10 ∷ bytes) ≡ Ok (OfPiece p)
piece_by p bytes e = rw e refl

piece_entry : (p : Piece) → piece_at (piece_bytes p) ≡ Ok p →
    entry_at (piece_bytes p) ≡ Ok (OfPiece p)
unfolding piece_bytes
piece_entry p e = piece_by p (step_bytes p.life p.number p.next ++ state_spelling Three p.part) e

entry_by : (k : Kind) (e : Entry) (bytes rest : List ℕ) → kind_at bytes ≡ Ok (k, rest) →
    body_at k bytes rest ≡ Ok e → entry_at bytes ≡ Ok e
entry_by k e bytes rest first body = rw first body

module _ (pieces : (p : Piece) → IsPiece p → piece_at (piece_bytes p) ≡ Ok p) where
  -- a spelling is read as its entry
  pub entry_again : (e : Entry) → IsEntry e → entry_at (entry_bytes e) ≡ Ok e
  entry_again (OfStart s) sound =
      let all = entry_bytes (OfStart s) in
      entry_by kind.Start (OfStart s) all (start_bytes s) refl
      (start_body all s (start_bytes s)
      (alone (start_at (length all)) (start_bytes s) (Ok (s, []))
      (start_again (length all) s [] sound)))
  entry_again (OfRound batches) sound =
      let all = entry_bytes (OfRound batches) in
      entry_by kind.Round (OfRound batches) all (round_bytes batches) refl
      (round_body all batches (round_bytes batches)
      (alone (round_at (length all)) (round_bytes batches) (Ok (batches, []))
      (round_again (length all) batches [] sound)))
  entry_again (OfSealed w) sound =
      let all = entry_bytes (OfSealed w) in
      entry_by kind.Sealed (OfSealed w) all (sealed_bytes w) refl
      (sealed_body all w (sealed_bytes w)
      (alone (λ b. of_part (sealed_at (length all) b)) (sealed_bytes w) (Ok (w, []))
      (ap of_part (sealed_again (length all) w [] sound))))
  entry_again OfRest sound = refl
  entry_again (OfPiece p) sound = piece_entry p (pieces p sound)

  pub entry_same : (d e : Entry) → IsEntry d → IsEntry e → entry_bytes d ≡ entry_bytes e → d ≡ e
  entry_same d e sound_d sound_e same =
      let both : ◌≡◌ {A = Result Entry EntryFault} (Ok d) (Ok e) = sym (entry_again d sound_d)
      ∙ (ap entry_at same ∙ entry_again e sound_e) in
      cc

-- ---- what the code has at its end

-- where reading gives an entry, it is the answer, or there was no memory
pub entry_or_no_memory : {X Y : Type 0} (Memory : EntryFault → Type 0) (view : X → Y)
    (r : Result X EntryFault) (read : Result Y EntryFault) (y : Y) → Answers Memory view r read →
    read ≡ Ok y → MatchResult r (λ x. view x ≡ y) Memory
entry_or_no_memory Memory view (Ok x) read y answers is = cc
entry_or_no_memory Memory view (Err fault) read y (inl none) is = none
entry_or_no_memory Memory view (Err fault) read y (inr e) is = absurd (cc)

-- what was written is read again
pub written_again : {X F : Type 0} (items : X → List ℕ) (r : Result X F) (e : Entry) →
    ((x : Entry) → IsEntry x → entry_at (entry_bytes x) ≡ Ok x) →
    IfOk r (λ v. items v ≡ entry_bytes e) → IfOk r (λ v. IsEntry e → entry_at (items v) ≡ Ok e)
written_again items (Ok v) e again is = λ sound. ap entry_at is ∙ again e sound
written_again items (Err fault) e again is = tt
